use Rattle.std.proofs.lemmas.Grind.{common_steps}
use Rattle.std.proofs.Common.{◌∙◌, arith, ap, sym}
use Rattle.csv.specs.Records.{fields_of}
use Rattle.ac_remedies.specs.Tables.Places.{header_text}
use Rattle.ac_remedies.proofs.FieldsJoined.{first_on, next_field, no_field}
use Rattle.ac_remedies.proofs.tables.places.header_text.Goals as goal

pub returns-in_default : goal.returns-in_default
returns-in_default c =
    c.new.ensures.items
    ∙ ap header_text (sym (no_field (fields_of c.args.header.now) 0 (rw (c.iter-fields.ensures.row, c.iter-fields.ensures.at) at c.in_default.ensures.steps.1)))

pub loop-field-init : goal.loop-field-init
loop-field-init c =
    let first = first_on (fields_of c.args.header.now) c.in-Some.first.now (rw (c.iter-fields.ensures.row, c.iter-fields.ensures.at) at c.in-Some.ensures.steps.1) in
    grind (arith, common_steps, first)

pub loop-field-preserved : goal.loop-field-preserved
loop-field-preserved c =
    let fields = c.loop-field.field-iterator in
    let turn = next_field (fields_of fields.row.now) fields.at c.in-Some-field.field.now c.in-Some-field.ensures.steps.1 in
    grind (arith, common_steps, turn)

pub returns : goal.returns
returns c =
    let fields = c.loop-field.field-iterator in
    let none = no_field (fields_of fields.row.now) fields.at c.in-None.ensures.steps.1 in
    grind (arith, common_steps, none)
