-- A `for` over the pieces of a text between its `&`.
use Rattle.std.proofs.Common.{◌≡◌, ◌≢◌, ℕ, ◌<◌, ◌==◌, Bool, true, false, List, [], ◌∷◌, ◌++◌, take, drop, get_or, Option, Some, None, Bor, refl, sym, ap, ◌∙◌, arith, if◌then◌else◌, take-append-drop}
use Rattle.std.specs.Option.{MatchOption}
use Rattle.std.specs.List.{All, slice_split}
use Rattle.std.specs.Str.{NoCharPasses}
use Rattle.std.specs.declared.str.Split.{Split}
use Rattle.std.specs.Str.Iter.{split_steps, split_text, split_has_more, split_pattern}
use Rattle.std.specs.Str.Pattern.{FindsChar}
use Rattle.std.proofs.lemmas.Bool.Decides.{nat_tests}
use Rattle.std.proofs.lemmas.Grind.{common_steps}
use Rattle.std.proofs.lemmas.List.Splits.{slice_split_none, slice_split_at}
use Rattle.std.proofs.lemmas.Str.Pattern.{NoCharPasses-char, drop_at_char}
use Rattle.ac_run.specs.Wanted.Named.{is_and}

abbrev pub Steps : Split ℕ → Option (Bor (List ℕ)) → Split ℕ → Type 0
Steps = split_steps FindsChar (λ a b. b ≡ a)

-- the pieces that are left
abbrev pub pieces_left : Split ℕ → List (List ℕ)
pieces_left it = if split_has_more it then slice_split is_and (split_text it) else []

no_mark : (w : List ℕ) → NoCharPasses (λ d. d == 38) w → All (λ b. is_and b ≡ false) w
no_mark w h = λ k d l. let other : get_or w k 0 ≢ 38 = NoCharPasses-char 38 w k h (omega arith) l in grind (arith, nat_tests, common_steps, other)

cut_pieces : (w x rest : List ℕ) (live : Bool) (o : Option (ℕ × ℕ)) → FindsChar 38 w o
    → MatchOption o ((x ≡ w) × (live ≡ false)) (λ q. 0 < q.1 → (x ≡ take q.0 w) × (live ≡ true) × (rest ≡ drop q.1 w))
    → slice_split is_and w ≡ x ∷ (if live then slice_split is_and rest else [])
cut_pieces w x rest live None finds whole = grind (arith, common_steps, slice_split_none, no_mark)
cut_pieces w x rest live (Some q) finds cut =
    let parts = cut (omega (arith, finds.1.ends)) in
    let around : w ≡ take q.0 w ++ 38 ∷ drop q.1 w = sym (take-append-drop q.0 w) ∙ ap (λ z. take q.0 w ++ z) (drop_at_char 38 w q.0 q.1 finds.1 (omega arith)) in
    ap (slice_split is_and) around
    ∙ slice_split_at is_and (take q.0 w) 38 (drop q.1 w) (no_mark (take q.0 w) finds.0) refl
    ∙ ap (λ z. z ∷ slice_split is_and (drop q.1 w)) (sym parts.0)
    ∙ ap (λ z. x ∷ slice_split is_and z) (sym parts.2)
    ∙ ap (λ b. x ∷ (if b then slice_split is_and rest else [])) (sym parts.1)

-- a turn takes the first piece that is left
pub next_piece : (s t : Split ℕ) (x : Bor (List ℕ)) → split_pattern s ≡ 38 → Steps s (Some x) t → pieces_left s ≡ x.now ∷ pieces_left t
next_piece s t x is step = grind (arith, common_steps, cut_pieces)
