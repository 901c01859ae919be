use Rattle.ac_tables.proofs.Common.{◌≤◌, false, length, get_or, IsLeastBelow, TableRow, Named, ℕ}
use Rattle.ac_tables.proofs.tables.id_order.first_marked.Given as goal

abbrev pub invariant-loop-i : goal.invariant-loop-i
invariant-loop-i l =
    record {
      least : IsLeastBelow (λ k (d : TableRow ℕ Named). get_or l.marks k false) (λ k d. (get_or l.rows k d).number) l.i l.first;
      within : l.i ≤ length l.rows;
    }
