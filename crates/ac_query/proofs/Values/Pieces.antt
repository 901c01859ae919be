-- A `for` over the items of a text.
use Rattle.std.proofs.Common.{◌≡◌, ◌≢◌, ℕ, ◌<◌, ◌==◌, Bool, true, false, List, [], ◌∷◌, ◌++◌, take, drop, get_or, Option, Some, None, Bor, refl, sym, ap, ◌∙◌, arith, if◌then◌else◌, take-append-drop}
use Rattle.std.specs.Option.{MatchOption}
use Rattle.std.specs.List.{All}
use Rattle.std.specs.Str.{NoCharPasses}
use Rattle.std.specs.declared.str.Split.{Split}
use Rattle.std.specs.Str.Iter.{split_steps, split_text, split_has_more, split_pattern}
use Rattle.std.specs.Str.Pattern.{FindsChar}
use Rattle.std.proofs.lemmas.Bool.Decides.{nat_tests}
use Rattle.std.proofs.lemmas.Grind.{common_steps}
use Rattle.std.proofs.lemmas.List.Splits.{slice_split_none, slice_split_at}
use Rattle.std.proofs.lemmas.Str.Pattern.{NoCharPasses-char, drop_at_char}
use Rattle.ac_query.specs.Texts.{is_comma, items_of}

abbrev pub Steps : Split ℕ → Option (Bor (List ℕ)) → Split ℕ → Type 0
Steps = split_steps FindsChar (λ a b. b ≡ a)

-- the items that are left
abbrev pub parts_left : Split ℕ → List (List ℕ)
parts_left it = if split_has_more it then items_of (split_text it) else []

no_comma : (w : List ℕ) → NoCharPasses (λ d. d == 44) w → All (λ b. is_comma b ≡ false) w
no_comma w h = λ k d l. let other : get_or w k 0 ≢ 44 = NoCharPasses-char 44 w k h (omega arith) l in grind (arith, nat_tests, common_steps, other)

cut_items : (w x rest : List ℕ) (live : Bool) (o : Option (ℕ × ℕ)) → FindsChar 44 w o
    → MatchOption o ((x ≡ w) × (live ≡ false)) (λ q. 0 < q.1 → (x ≡ take q.0 w) × (live ≡ true) × (rest ≡ drop q.1 w))
    → items_of w ≡ x ∷ (if live then items_of rest else [])
cut_items w x rest live None finds whole = grind (arith, common_steps, slice_split_none, no_comma)
cut_items w x rest live (Some q) finds cut =
    let parts = cut (omega (arith, finds.1.ends)) in
    let around : w ≡ take q.0 w ++ 44 ∷ drop q.1 w = sym (take-append-drop q.0 w) ∙ ap (λ z. take q.0 w ++ z) (drop_at_char 44 w q.0 q.1 finds.1 (omega arith)) in
    ap items_of around
    ∙ slice_split_at is_comma (take q.0 w) 44 (drop q.1 w) (no_comma (take q.0 w) finds.0) refl
    ∙ ap (λ z. z ∷ items_of (drop q.1 w)) (sym parts.0)
    ∙ ap (λ z. x ∷ items_of z) (sym parts.2)
    ∙ ap (λ b. x ∷ (if b then items_of rest else [])) (sym parts.1)

-- a turn takes the first item that is left
pub next_part : (s t : Split ℕ) (x : Bor (List ℕ)) → split_pattern s ≡ 44 → Steps s (Some x) t → parts_left s ≡ x.now ∷ parts_left t
next_part s t x comma step = grind (arith, common_steps, cut_items)
