use Rattle.ac_tables.proofs.Common.{◌≡◌, ◌<◌, ℕ, false, length, get_or, ◌==◌, not, TableRow, Named}
use Rattle.ac_tables.proofs.tables.id_order.mark_other_roots.Given as goal

abbrev pub invariant-loop-i : goal.invariant-loop-i
invariant-loop-i l =
    record {
      count : length l.marks.items ≡ l.i;
      done : (k : ℕ) (d : TableRow ℕ Named) → k < l.i → get_or l.marks.items k false ≡ not (get_or l.ids.ids.items (get_or l.tops k 0) 0 == (get_or l.rows k d).value.root);
    }
