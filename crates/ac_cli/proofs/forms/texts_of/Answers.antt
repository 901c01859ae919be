use Rattle.std.proofs.Common.{◌<◌, ◌∙◌, ◌∷◌, [], arith, length, map}
use Rattle.std.proofs.lemmas.List.{map-append}
use Rattle.std.specs.String.{string_bytes}
use Rattle.csv.specs.Records.{fields_of}
use Rattle.ac_cli.specs.Forms.{cell_text}
use Rattle.ac_cli.proofs.Drawn.{next_shown}
use Rattle.ac_cli.proofs.forms.texts_of.Goals as goal

pub loop-i-preserved : goal.loop-i-preserved
loop-i-preserved c =
    let fields = fields_of c.args.row.now in
    let low : c.loop-i.i < length fields = omega (arith, c.loop-i-test.true, c.len-i-end.ensures) in
    rw (c.in_ok-push.ensures.items, map-append string_bytes c.loop-i.texts.items (c.in_ok-cell_text.field-0 ∷ []), c.in_ok-cell_text.ensures, c.text_at.ensures)
    (next_shown cell_text fields c.loop-i.i [] (map string_bytes c.loop-i.texts.items) low ∙ c.loop-i.invariant)
