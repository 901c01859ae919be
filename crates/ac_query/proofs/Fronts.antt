-- What stands behind a front.
use Rattle.std.proofs.Common.{◌≡◌, ℕ, true, false, List, drop, length, Option, Some, None, Bor, sym, ap, subst, ◌∙◌, if◌then◌else◌}
use Rattle.std.specs.Option.{MatchOption, option_map}
use Rattle.std.specs.Str.{IsCharBoundary}
use Rattle.std.specs.Str.Pattern.{FindsTextPrefix, StripsPrefix}
use Rattle.std.proofs.lemmas.Str.Pattern.{starts_text}
use Rattle.ac_query.specs.Texts.{behind}

pub behind_strip : (front text : List ℕ) (r : Option (Bor (List ℕ))) → MatchOption r (FindsTextPrefix front text None) (λ x. StripsPrefix (FindsTextPrefix front) text x.now)
    → option_map (λ s. s.now) r ≡ behind front text
unfolding behind
behind_strip front text None h = ap (λ b. if b then Some (drop (length front) text) else None) (starts_text false front text h)
behind_strip front text (Some x) h =
    ap Some (h.2 ∙ ap (λ n. drop n text) h.1.0)
    ∙ ap (λ b. if b then Some (drop (length front) text) else None) (starts_text true front text (h.0, h.1, subst (IsCharBoundary text) (sym h.1.0) h.1.2))
