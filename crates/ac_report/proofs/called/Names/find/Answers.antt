use Rattle.std.proofs.Common.{◌∙◌, None, Some, ap, refl, sym}
use Rattle.ac_report.specs.Called.{ids_called, stands_for}
use Rattle.ac_report.proofs.OneCalled.{as_known}
use Rattle.ac_report.proofs.called.Names.find.Goals as goal

pub returns-in-Some : goal.returns-in-Some
unfolding stands_for
returns-in-Some c called were = rw (sym c.read.ensures ∙ c.in-Some.is) refl

pub returns-in-None : goal.returns-in-None
unfolding stands_for
returns-in-None c called were =
    let text = c.args.text.now in
    sym (as_known text (ids_called called text) None (sym c.read.ensures ∙ c.in_default.is) (sym c.in-None.is ∙ c.known_of.ensures ∙ were text))

pub returns-in-Some-None : goal.returns-in-Some-None
unfolding stands_for
returns-in-Some-None c called were =
    let text = c.args.text.now in
    sym (as_known text (ids_called called text) (Some None) (sym c.read.ensures ∙ c.in_default.is)
    (sym (c.in-Some-None.is ∙ ap Some c.in-Some-None.field-0-is) ∙ c.known_of.ensures ∙ were text))

pub returns-in-Some-Some : goal.returns-in-Some-Some
unfolding stands_for
returns-in-Some-Some c called were =
    let text = c.args.text.now in
    rw c.from_u128.ensures (sym (as_known text (ids_called called text) (Some (Some c.in-Some-Some.id)) (sym c.read.ensures ∙ c.in_default.is)
    (sym (c.in-Some-Some.is ∙ ap Some c.in-Some-Some.field-0-is) ∙ c.known_of.ensures ∙ were text)))
