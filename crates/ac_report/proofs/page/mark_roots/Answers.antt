use Rattle.std.proofs.Common.{◌∙◌, ◌||◌, ℕ, List, false, sym, ap, get_or, arith}
use Rattle.std.proofs.Math.Bool.{or-false}
use Rattle.std.specs.List.{list_any}
use Rattle.std.proofs.lemmas.List.{drop_all, drop_more}
use Rattle.ac_cloud.specs.Cloud.CloudWorld.{providers_of}
use Rattle.ac_cloud.specs.World.{id_at}
use Rattle.ac_report.specs.Marks.{has_root}
use Rattle.ac_report.proofs.Trees.Marking.{marks_step}
use Rattle.ac_report.proofs.page.mark_roots.Goals as goal

pub loop-ix-preserved : goal.loop-ix-preserved
loop-ix-preserved c =
    let all = providers_of c.args.cloud.now in
    record {
      long = c.mark_root.ensures.long ∙ c.loop-ix.invariant.long;
      marked = λ r low. marks_step (has_root all (id_at all r)) _ _ _ _ (get_or c.loop-ix.marks r false) _ (drop_more c.args.list.now c.loop-ix.ix-index 0 c.loop-ix-test.true)
          (c.loop-ix.invariant.marked r low) (c.mark_root.ensures.marked r (omega (arith, low, c.loop-ix.invariant.long)));
    }

pub returns-clause-marked : goal.returns-clause-marked
returns-clause-marked c = λ r low.
    let all = providers_of c.args.cloud.now in
    sym (c.loop-ix.invariant.marked r low
    ∙ ap (λ (l : List ℕ). get_or c.loop-ix.marks r false || list_any (has_root all (id_at all r)) l) (drop_all c.loop-ix.ix-index c.args.list.now (omega arith))
    ∙ or-false (get_or c.loop-ix.marks r false))
