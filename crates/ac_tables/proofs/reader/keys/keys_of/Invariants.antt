use Rattle.ac_tables.proofs.Common.{◌≡◌, ◌==◌, [], map, filter, range_with_len, lists_of, length, sum_by, TableRow}
use Rattle.std.specs.List.{AllZip}
use Rattle.ac_tables.proofs.reader.keys.keys_of.Given as goal

abbrev pub invariant-loop-place : goal.invariant-loop-place
invariant-loop-place g l =
    record {
      empty : l.keys.items ≡ [];
      made : AllZip (AllZip g.K.Clone.is_clone) (map (map (λ (r : TableRow _ _). r.key)) (map (λ p. filter (λ (r : TableRow _ _). r.place == p) l.own.rows.items) (range_with_len 0 l.place))) (lists_of l.lists);
      counted : sum_by length (lists_of l.lists) ≡ sum_by length (map (λ p. filter (λ (r : TableRow _ _). r.place == p) l.own.rows.items) (range_with_len 0 l.place));
    }
