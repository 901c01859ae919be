use Rattle.ac_change.proofs.Removed.{left_rooted, left_whole, removed_is}
use Rattle.ac_change.proofs.draft.Draft.without.Goals as goal

pub invariant_of-result : goal.invariant_of-result
invariant_of-result c = record {
  rooted = left_rooted c.args.self.list.items c.in_ok-list-in-Ok.list.items _ c.in_ok-list-in-Ok.ensures c.args.self.rooted c.args.self.whole;
  whole = left_whole c.args.self.list.items c.in_ok-list-in-Ok.list.items _ c.in_ok-list-in-Ok.ensures c.args.self.rooted c.args.self.whole;
}

pub returns-in_ok-list-in-Ok-clause-new : goal.returns-in_ok-list-in-Ok-clause-new
returns-in_ok-list-in-Ok-clause-new c =
    removed_is c.args.self.list.items c.in_ok-list-in-Ok.list.items c.args.text.now c.in-Ok.root (rw c.deref.ensures.value at c.in-Ok.ensures) c.in_ok-list-in-Ok.ensures c.args.self.rooted
