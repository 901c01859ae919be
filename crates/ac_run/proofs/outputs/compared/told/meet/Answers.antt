use Rattle.std.proofs.Common.{◌∙◌, ap, map, refl, string_bytes}
use Rattle.ac_base.proofs.ShownKeys.{insert_key_shown}
use Rattle.ac_base.specs.Texts.{text_cmp}
use Rattle.ac_run.proofs.outputs.compared.told.meet.Goals as goal

pub returns : goal.returns
returns c =
    ap (map string_bytes) c.in_ok-insert.ensures.keys ∙ insert_key_shown string_bytes _ text_cmp (λ a b. refl) c.args.met.now.keys c.args.text
