use Rattle.ac_tables.proofs.Common.{◌≡◌, ◌≤◌, ◌<◌, ◌-◌, ℕ, get_or, length}
use Rattle.ac_tables.specs.declared.reader.provider_rows.Span.{Span}
use Rattle.ac_tables.proofs.Gathered.RowRuns.{IsEdge}
use Rattle.ac_tables.proofs.Gathered.RowSlices.{IsSpanUpTo}
use Rattle.ac_tables.proofs.reader.provider_rows.find_spans.Given as goal

abbrev pub invariant-runs : goal.invariant-runs
invariant-runs g l =
    record {
      within : l.from ≤ length l.rows;
      sized : length l.spans.items ≡ l.count;
      edge : IsEdge l.rows l.from;
      spans : (p : ℕ) (d : Span) → p < length l.spans.items → IsSpanUpTo l.rows l.from p (get_or l.spans.items p d).from (get_or l.spans.items p d).end;
    }

abbrev pub decreases-runs : goal.decreases-runs
decreases-runs g l = length l.rows - l.from
