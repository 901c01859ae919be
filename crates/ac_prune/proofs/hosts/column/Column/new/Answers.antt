use Rattle.std.proofs.Common.{arith}
use Rattle.ac_prune.proofs.hosts.column.Column.new.Goals as goal

pub rooms_of-requires : goal.rooms_of-requires
rooms_of-requires c = omega (arith, rw c.deref.ensures.value at c.number_of-number.ensures.number, c.requires.known)

pub invariant_of-result : goal.invariant_of-result
invariant_of-result c = record {
  empty = c.requires.empty;
  known = c.requires.known;
  numbered = rw c.deref.ensures.value at c.number_of-number.ensures.number;
  as_many = c.in_ok-rooms.ensures.count;
  left = c.in_ok-rooms.ensures.rooms;
}
