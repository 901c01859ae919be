use Rattle.std.proofs.Common.{◌∙◌, sym, ap, refl, ◌+◌, ◌*◌, Some, None, le-leb, if◌then◌else◌}
use Rattle.std.proofs.lemmas.Bool.{lt-leb}
use Rattle.ac_base.proofs.Ratios.{ratio_parts}
use Rattle.ac_base.proofs.number.Ratio.read.Goals as goal

pub returns-in_err-whole : goal.returns-in_err-whole
returns-in_err-whole c =
    c.from_residual.ensures ∙ ratio_parts c.args.text.now c.unwrap_or-point.result None _ (cc) c.in_err-whole.ensures.value refl

pub returns-in_err-fraction : goal.returns-in_err-fraction
returns-in_err-fraction c =
    c.from_residual-in_err-fraction.ensures
    ∙ ratio_parts c.args.text.now c.unwrap_or-point.result (Some c.in_ok-whole.whole) None (cc) c.in_ok-whole.ensures.value c.in_err-fraction.ensures.value

pub returns-then-millionths-le-GREATEST_RATIO : goal.returns-then-millionths-le-GREATEST_RATIO
returns-then-millionths-le-GREATEST_RATIO c =
    ap (λ t. if t then Some (c.in_ok-whole.whole * 1000000 + c.in_ok-fraction.fraction) else None) (sym (le-leb _ _ c.if-millionths-le-GREATEST_RATIO.true))
    ∙ ratio_parts c.args.text.now c.unwrap_or-point.result (Some c.in_ok-whole.whole) (Some c.in_ok-fraction.fraction) (cc) c.in_ok-whole.ensures.value c.in_ok-fraction.ensures.value

pub returns-else-millionths-le-GREATEST_RATIO : goal.returns-else-millionths-le-GREATEST_RATIO
returns-else-millionths-le-GREATEST_RATIO c =
    ap (λ t. if t then Some (c.in_ok-whole.whole * 1000000 + c.in_ok-fraction.fraction) else None) (sym (lt-leb _ _ c.if-millionths-le-GREATEST_RATIO.false))
    ∙ ratio_parts c.args.text.now c.unwrap_or-point.result (Some c.in_ok-whole.whole) (Some c.in_ok-fraction.fraction) (cc) c.in_ok-whole.ensures.value c.in_ok-fraction.ensures.value
