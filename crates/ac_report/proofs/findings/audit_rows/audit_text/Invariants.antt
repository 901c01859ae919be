use Rattle.std.proofs.Common.{◌≡◌, ◌++◌, ◌∷◌, drop, map}
use Rattle.ac_base.specs.Writing.Rows.{HasRows}
use Rattle.ac_find.specs.Shown.Audit.{finding_shown}
use Rattle.ac_report.specs.Findings.AuditRows.{audit_columns, finding_row}
use Rattle.ac_report.proofs.findings.audit_rows.audit_text.Given as goal

abbrev pub invariant-loop-finding : goal.invariant-loop-finding
invariant-loop-finding l =
    (written : _) × HasRows l.rows written
    × (written ++ map finding_row (map finding_shown (drop l.finding-index l.found)) ≡ audit_columns ∷ map finding_row (map finding_shown l.found))
