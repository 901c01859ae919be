use Rattle.ac_cloud.proofs.Common.{◌+◌, arith, ap, length, get_or_read}
use Rattle.ac_cloud.proofs.ListFacts.{lists_size}
use Rattle.ac_cloud.specs.ListBounds.{AreLaidOut}
use Rattle.ac_cloud.proofs.lists.Lists.of.Goals as goal

pub cut-requires-clause-order : goal.cut-requires-clause-order
unfolding AreLaidOut
cut-requires-clause-order g c =
    let starts = c.args.self.now.starts.items in
    let high = get_or_read starts (c.args.place + 1) c.index-2.result.now (omega (arith, lists_size c.args.self.now.items.items starts)) c.index-2.ensures 0 in
    let up = c.args.self.now.bounds.order c.args.place (omega (arith, lists_size c.args.self.now.items.items starts)) in
    omega (arith, get_or_read starts c.args.place c.index.result.now (omega (arith, lists_size c.args.self.now.items.items starts)) c.index.ensures 0, high, up)

pub cut-requires-clause-inside : goal.cut-requires-clause-inside
unfolding AreLaidOut
cut-requires-clause-inside g c =
    let starts = c.args.self.now.starts.items in
    let high = get_or_read starts (c.args.place + 1) c.index-2.result.now (omega (arith, lists_size c.args.self.now.items.items starts)) c.index-2.ensures 0 in
    let up = c.args.self.now.bounds.inside (c.args.place + 1) (omega (arith, lists_size c.args.self.now.items.items starts)) in
    omega (arith, high, up, ap length c.deref.ensures.value)
