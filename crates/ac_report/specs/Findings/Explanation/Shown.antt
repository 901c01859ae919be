-- private: what was found without one thing each, as the code holds it.
use Rattle.ac_report.specs.declared.findings.explanation.without.FoundWithout as rust
use Rattle.ac_report.specs.Findings.Explanation.Candidates.{FoundWithout}

abbrev pub found_shown : rust.FoundWithout → FoundWithout
found_shown f = record { subtrees = f.subtrees.items; policy = f.policy; required = f.required }
