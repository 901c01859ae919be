use Rattle.std.proofs.Common.{◌∙◌, ◌∷◌, [], List, ℕ, codes, subst}
use Rattle.ac_base.specs.Writing.{Pushes}
use Rattle.ac_base.specs.Writing.Pieces.{said}
use Rattle.ac_report.specs.Findings.Explanation.{left_text}
use Rattle.ac_report.proofs.findings.explanation.push_left.Goals as goal

pub returns : goal.returns
unfolding left_text
returns g c =
    subst (λ (digits : List ℕ). Pushes g.W.Sink.taken g.W.Sink.failures c.args.out.now c.push_pieces.new.out c.push_pieces.result (said (c.args.mark.now ∷ codes "largest left " ∷ digits ∷ [])))
    (c.as_bytes.ensures.value ∙ c.format.ensures.text) c.push_pieces.ensures
