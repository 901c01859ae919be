use Rattle.std.proofs.Common.{◌<◌, ◌∙◌, length, sym, subst, arith}
use Rattle.std.specs.List.{All, range_with_len}
use Rattle.std.proofs.lemmas.List.Elements.{All-from_recursion}
use Rattle.ac_rules.proofs.EachSlot.AnchorLemmas.{each_range}
use Rattle.ac_prune.specs.Left.Accounts.{providers_in}
use Rattle.ac_prune.proofs.ahead.Ahead.new.Goals as goal

pub by_tree-requires-clause-providers : goal.by_tree-requires-clause-providers
by_tree-requires-clause-providers c =
    let n = length (providers_in c.args.ledger.now) in
    let list = c.in_ok-places.places.items in
    let low : All (λ p. p < n) (range_with_len 0 (length list)) = All-from_recursion (λ p. p < n) (range_with_len 0 (length list)) (each_range 0 (length list) n (omega (arith, c.in_ok-places.ensures.few))) in
    subst (All (λ p. p < n)) (sym (c.deref-2.ensures.value ∙ c.in_ok-places.ensures.places)) low
