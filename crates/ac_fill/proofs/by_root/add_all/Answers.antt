use Rattle.std.proofs.Common.{arith}
use Rattle.ac_cloud.specs.Cloud.CloudWorld.{providers_of}
use Rattle.ac_fill.proofs.AtRoots.{sum_exact}
use Rattle.ac_fill.proofs.by_root.add_all.Goals as goal

pub returns : goal.returns
returns c = λ r h.
    let lists = c.root_lists.ensures in
    let sums = c.deref.ensures.value in
    let brought = rw (lists, sums) at (c.add_lists.ensures r (omega (arith, h, c.requires.sums, c.sums_by_list.auto.sums))) in
    let split = c.in_ok-of_lists.ensures.split r h in
    sum_exact (providers_of c.args.cloud.now) c.args.numbers.now r _ (omega (arith, c.requires.sums)) (λ p. omega (arith, c.type_inv.numbers p)) (omega (arith, brought, split))
