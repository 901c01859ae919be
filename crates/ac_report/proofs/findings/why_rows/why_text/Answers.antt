use Rattle.ac_report.specs.Findings.WhyRows.{why_text}
use Rattle.ac_report.proofs.findings.why_rows.why_text.Goals as goal

pub returns : goal.returns
unfolding why_text
returns c = c.end_rows.ensures _ (c.in_ok-write_verdict.ensures _ (c.in_ok-write_root.ensures _ (c.in_ok-write_slots.ensures _ c.in_ok-rows.ensures)))
