use Rattle.std.proofs.Common.{◌∙◌}
use Rattle.ac_rules.proofs.EachSlot.AnchorLemmas.{anchors_within}
use Rattle.ac_search.specs.Shown.Walk.{cloud_in}
use Rattle.ac_search.proofs.Steps.SpentLemmas.{stands_one}
use Rattle.ac_search.proofs.walk.Walk.looks_at.Goals as goal

pub has_marked-requires : goal.has_marked-requires
has_marked-requires c =
    let w = c.args.self.now in
    rw (c.anchors-roots.ensures, c.deref.ensures.value, rw c.in-Some.is at w.marked) (anchors_within (cloud_in w) c.args.ix)

pub returns-in-Some : goal.returns-in-Some
returns-in-Some c = rw (c.in-Some.is) (rw (c.deref.ensures.value, c.anchors-roots.ensures) at c.has_marked.ensures ∙ stands_one (cloud_in c.args.self.now) c.in-Some.marks.items c.args.ix)
