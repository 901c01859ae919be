use Rattle.ac_tables.proofs.Common.{◌≡◌, ◌<◌, ℕ, false, None, length, get_or, is_some}
use Rattle.ac_tables.proofs.tables.id_order.mark_endless.Given as goal

abbrev pub invariant-loop-top : goal.invariant-loop-top
invariant-loop-top l =
    record {
      count : length l.marks.items ≡ l.top-index;
      done : (k : ℕ) → k < l.top-index → get_or l.marks.items k false ≡ is_some (get_or l.parents (get_or l.tops k 0) None);
    }
