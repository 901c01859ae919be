use Rattle.std.proofs.Common.{◌≡◌, ◌∙◌, ◌+◌, ◌-◌, ◌||◌, ℕ, List, refl, false, sym, ap, get_or, length, arith}
use Rattle.std.proofs.Math.Bool.{or-false}
use Rattle.std.specs.List.{list_any, range_with_len}
use Rattle.ac_base.proofs.Small.{or_grouped}
use Rattle.ac_cloud.specs.Cloud.CloudWorld.{providers_of}
use Rattle.ac_cloud.specs.World.{id_at}
use Rattle.ac_cloud.proofs.Ranges.{range_end, range_more}
use Rattle.ac_find.specs.Service.Differing.{has_other_below, tree_has_other}
use Rattle.ac_find.proofs.differences.summaries.mark_roots.Goals as goal

pub loop-ix-init : goal.loop-ix-init
unfolding tree_has_other
loop-ix-init c =
    let all = providers_of c.args.cloud.now in
    let whole : length all ≡ length all - 0 = omega arith in
    record {
      long = refl;
      marked = λ r low. ap (λ n. get_or c.args.marks.now r false || list_any (has_other_below all (id_at all r)) (range_with_len 0 n)) whole;
    }

pub loop-ix-preserved : goal.loop-ix-preserved
loop-ix-preserved c =
    let all = providers_of c.args.cloud.now in
    record {
      long = c.mark_root.ensures.long ∙ c.loop-ix.invariant.long;
      marked = λ r low.
          let test = has_other_below all (id_at all r) in
          let old = get_or c.loop-ix.marks r false in
          let rest = list_any test (range_with_len (c.loop-ix.ix + 1) (length all - (c.loop-ix.ix + 1))) in
          c.loop-ix.invariant.marked r low
          ∙ ap (λ (l : List ℕ). old || list_any test l) (range_more (length all) c.loop-ix.ix (omega (arith, c.len-ix-end.ensures)))
          ∙ or_grouped old (test c.loop-ix.ix) rest
          ∙ ap (λ b. b || rest) (sym (c.mark_root.ensures.marked r (omega (arith, low, c.loop-ix.invariant.long))));
    }

pub returns-clause-marked : goal.returns-clause-marked
returns-clause-marked c = λ r low.
    let all = providers_of c.args.cloud.now in
    sym (c.loop-ix.invariant.marked r low
    ∙ ap (λ (l : List ℕ). get_or c.loop-ix.marks r false || list_any (has_other_below all (id_at all r)) l) (range_end (length all) c.loop-ix.ix (omega (arith, c.len-ix-end.ensures)))
    ∙ or-false (get_or c.loop-ix.marks r false))
