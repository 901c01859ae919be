use Rattle.std.proofs.Common.{arith, take}
use Rattle.std.proofs.lemmas.List.{length-take}
use Rattle.ac_prune.proofs.Search.OpenLemmas.{filter_few}
use Rattle.ac_find.proofs.counts.count_marks.Goals as goal

pub overflow_add-count : goal.overflow_add-count
overflow_add-count c =
    let few = filter_few (λ mark. mark) (take c.loop-mark.mark-index c.args.marks.now) in
    let size = length-take c.loop-mark.mark-index c.args.marks.now in
    omega (arith, few, size, c.loop-mark.invariant, c.loop-mark-test.true, c.requires)
