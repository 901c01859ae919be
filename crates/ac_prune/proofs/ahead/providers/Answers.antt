use Rattle.std.proofs.Common.{◌∙◌, ◌∷◌, ◌++◌, [], ℕ, length, ap, sym, arith}
use Rattle.std.specs.List.{range_with_len}
use Rattle.std.proofs.lemmas.List.FromFn.{length-range_with_len}
use Rattle.ac_prune.proofs.Search.OpenLemmas.{range_with_len_more}
use Rattle.ac_prune.proofs.ahead.providers.Goals as goal

pub loop-ix-preserved : goal.loop-ix-preserved
loop-ix-preserved c =
    let ix = c.loop-ix.ix in
    c.in_ok-push.ensures.items ∙ (ap (λ l. l ++ ix ∷ []) c.loop-ix.invariant ∙ (ap (λ (i : ℕ). range_with_len 0 ix ++ i ∷ []) (omega arith) ∙ sym (range_with_len_more 0 ix)))

pub returns-clause-few : goal.returns-clause-few
returns-clause-few c =
    omega (arith, ap length c.loop-ix.invariant, length-range_with_len 0 c.loop-ix.ix, c.loop-ix.auto.ix-end, c.len-ix-end.ensures)

pub returns-clause-places : goal.returns-clause-places
returns-clause-places c =
    c.loop-ix.invariant ∙ ap (range_with_len 0) (sym (ap length c.loop-ix.invariant ∙ length-range_with_len 0 c.loop-ix.ix))
