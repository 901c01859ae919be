use Rattle.std.proofs.Common.{◌≡◌, ◌∙◌, ◌∷◌, arith, map, string_bytes}
use Rattle.ac_remedies.proofs.FieldsJoined.{joined_on}
use Rattle.ac_run.proofs.outputs.plain.values.joined.Goals as goal

pub loop-text-init : goal.loop-text-init
loop-text-init c =
    let whole : c.args.texts.now ≡ c.in-Some.first.now ∷ c.in-Some.later.now = grind arith in
    let start : string_bytes c.in_ok-joined.joined ≡ string_bytes c.in-Some.first.now = c.in_ok-joined.ensures.ok ∙ c.deref.ensures in
    rw (whole, start) (joined_on c.args.mark (string_bytes c.in-Some.first.now) (map string_bytes c.in-Some.later.now))
