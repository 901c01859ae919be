use Rattle.std.proofs.Common.{◌≡◌, ◌∙◌, ◌&&◌, Bool, ap, ap₂, map, not, refl, sym}
use Rattle.std.proofs.Math.Bool.{not-not}
use Rattle.std.specs.String.{string_bytes}
use Rattle.ac_base.specs.Texts.{text_cmp}
use Rattle.ac_query.specs.Shown.{texts_shown}
use Rattle.ac_base.proofs.ShownKeys.{insert_key_shown}
use Rattle.ac_query.proofs.Values.NameSets.{contains_text}
use Rattle.ac_query.specs.Texts.{has_text}
use Rattle.ac_query.proofs.reading.pass.is_repeat.Goals as goal

pub returns-then-not-may_repeat-clause-earlier : goal.returns-then-not-may_repeat-clause-earlier
returns-then-not-may_repeat-clause-earlier c =
    ap (map string_bytes) c.in_ok-is_new.ensures.keys ∙ insert_key_shown string_bytes _ text_cmp (λ a b. refl) c.args.earlier.now.keys c.args.name

pub returns-else-not-may_repeat-clause-earlier : goal.returns-else-not-may_repeat-clause-earlier
returns-else-not-may_repeat-clause-earlier c =
    ap (map string_bytes) c.in_ok-is_new.ensures.keys ∙ insert_key_shown string_bytes _ text_cmp (λ a b. refl) c.args.earlier.now.keys c.args.name

pub returns-then-not-may_repeat-clause-repeated : goal.returns-then-not-may_repeat-clause-repeated
returns-then-not-may_repeat-clause-repeated c =
    let there : not c.in_ok-is_new.is_new ≡ has_text (texts_shown c.args.earlier.now) (string_bytes c.args.name) =
    ap (λ b. not b) c.in_ok-is_new.ensures.added ∙ not-not _ ∙ contains_text string_bytes _ (λ a b. refl) c.args.earlier.now.keys c.args.name in
    ap (λ (may : Bool). not may && not c.in_ok-is_new.is_new) (sym c.if-not-may_repeat.true)
    ∙ ap₂ (λ may again. not may && again) c.may_repeat.ensures there
