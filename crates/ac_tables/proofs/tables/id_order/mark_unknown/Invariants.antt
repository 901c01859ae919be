use Rattle.ac_tables.proofs.Common.{◌≡◌, ◌<◌, ℕ, false, None, length, get_or, ◌&&◌, is_some, is_none, TableRow, Named}
use Rattle.ac_tables.proofs.tables.id_order.mark_unknown.Given as goal

abbrev pub invariant-loop-i : goal.invariant-loop-i
invariant-loop-i l =
    record {
      count : length l.marks.items ≡ l.i;
      done : (k : ℕ) (d : TableRow ℕ Named) → k < l.i → get_or l.marks.items k false ≡ (is_some (get_or l.rows k d).value.parent && is_none (get_or l.parents k None));
    }
