use Rattle.ac_tables.proofs.Common.{◌≡◌, [], map, range_with_len, entry_pair, lists_of}
use Rattle.ac_tables.proofs.Places.JoinFacts.{used_at}
use Rattle.ac_tables.proofs.tables.entries.join.Given as goal

abbrev pub invariant-loop-place : goal.invariant-loop-place
invariant-loop-place l =
    record {
      empty : l.entries.items ≡ [];
      made : map (map entry_pair) (lists_of l.lists) ≡ map (used_at l.usages.rows.items l.inventories.rows.items) (range_with_len 0 l.place);
    }
