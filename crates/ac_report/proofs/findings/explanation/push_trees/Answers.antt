use Rattle.std.proofs.Common.{◌∙◌, refl}
use Rattle.ac_report.specs.Findings.Explanation.{trees_line}
use Rattle.ac_report.proofs.FoundTexts.Begun.{pushed_told}
use Rattle.ac_report.proofs.findings.explanation.push_trees.Goals as goal

pub returns : goal.returns
unfolding trees_line
returns g c =
    pushed_told
    (rw (c.as_bytes.ensures ∙ c.of.ensures, c.as_bytes-2.ensures ∙ c.of-2.ensures, c.as_bytes-3.ensures ∙ c.of-3.ensures, c.as_bytes-4.ensures ∙ c.of-4.ensures) refl)
    c.push_pieces.ensures
