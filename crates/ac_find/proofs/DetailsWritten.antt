-- The first of what is gone through; and names of a list, one behind another.
use Rattle.std.proofs.lemmas.Grind.{common_steps}
use Rattle.std.proofs.Common.{◌≡◌, ◌∙◌, ℕ, ◌+◌, ◌<◌, List, [], ◌∷◌, ◌++◌, length, map, take, get_or, Bool, Bor, Option, Some, None, refl, sym, ap, append_assoc, arith, inl, inr}
use Rattle.std.specs.Prelude.{find}
use Rattle.std.specs.Option.{option_map}
use Rattle.std.proofs.lemmas.Bool.{cases_Bool}
use Rattle.std.proofs.lemmas.Bool.Decides.{nat_tests}
use Rattle.std.proofs.lemmas.List.{take_more, length-take-le}
use Rattle.std.specs.List.{join_with_byte}
use Rattle.ac_query.proofs.WrittenIds.{joined_more}
use Rattle.ac_find.specs.Details.{part_text}

-- ---- what is found, as it is shown

pub find_shown : {X Y : Type 0} (show : X → Y) (test : Y → Bool) (xs : List X) → find test (map show xs) ≡ option_map show (find (λ x. test (show x)) xs)
find_shown show test [] = refl
find_shown show test (x ∷ xs) = elim (cases_Bool (test (show x))) [ inl e ↦ rw e refl | inr e ↦ rw e (find_shown show test xs) ]

lent_shown : {X Y : Type 0} (show : X → Y) (found : Option (Bor X)) → option_map (λ x. show x.now) found ≡ option_map show (option_map (λ x. x.now) found)
lent_shown show None = refl
lent_shown show (Some x) = refl

pub found_shown : {X Y : Type 0} (show : X → Y) (test : Y → Bool) (xs : List X) (found : Option (Bor X)) → option_map (λ x. x.now) found ≡ find (λ x. test (show x)) xs
    → option_map (λ x. show x.now) found ≡ find test (map show xs)
found_shown show test xs found is = lent_shown show found ∙ (ap (option_map show) is ∙ sym (find_shown show test xs))

-- ---- names of a list

behind_others : (names : List (List ℕ)) (name : List ℕ) (place : ℕ) → place ≡ length names → join_with_byte 44 (names ++ name ∷ []) ≡ join_with_byte 44 names ++ part_text place name
behind_others [] name place is = rw is refl
behind_others (first ∷ names) name place is = grind (arith, common_steps, nat_tests, joined_more)

pub next_part : (names : List (List ℕ)) (place : ℕ) (name : List ℕ) → place < length names → name ≡ get_or names place name
    → join_with_byte 44 (take (place + 1) names) ≡ join_with_byte 44 (take place names) ++ part_text place name
next_part names place name within is = grind (arith, common_steps, take_more, behind_others, length-take-le)

-- the same behind a text
pub next_behind : (front : List ℕ) (names : List (List ℕ)) (place : ℕ) (name text : List ℕ) → place < length names → name ≡ get_or names place name
    → text ≡ front ++ join_with_byte 44 (take place names) → text ++ part_text place name ≡ front ++ join_with_byte 44 (take (place + 1) names)
next_behind front names place name text within is so =
    ap (λ (l : List ℕ). l ++ part_text place name) so
    ∙ (append_assoc front (join_with_byte 44 (take place names)) (part_text place name) ∙ ap (λ (l : List ℕ). front ++ l) (sym (next_part names place name within is)))

-- names that are still to come, the first at a place
abbrev pub parts_from : ℕ → List (List ℕ) → List ℕ
parts_from place [] = []
parts_from place (name ∷ names) = part_text place name ++ parts_from (place + 1) names

behind_first : (first : List ℕ) (names : List (List ℕ)) (place : ℕ) → 0 < place → join_with_byte 44 (first ∷ names) ≡ first ++ parts_from place names
behind_first first [] place later = grind (arith, common_steps)
behind_first first (name ∷ names) place later = grind (arith, common_steps, nat_tests, behind_first name names (place + 1))

pub all_parts : (names : List (List ℕ)) → parts_from 0 names ≡ join_with_byte 44 names
all_parts [] = refl
all_parts (name ∷ names) = let later = behind_first name names 1 (omega arith) in grind (arith, common_steps, nat_tests)

pub part_taken : (text more : List ℕ) (names : List (List ℕ)) (place : ℕ) (name whole : List ℕ) (rest : List (List ℕ)) → names ≡ name ∷ rest → more ≡ text ++ part_text place name
    → text ++ parts_from place names ≡ whole → more ++ parts_from (place + 1) rest ≡ whole
part_taken text more names place name whole rest is new h =
    ap (λ (l : List ℕ). l ++ parts_from (place + 1) rest) new
    ∙ (append_assoc text (part_text place name) (parts_from (place + 1) rest) ∙ (ap (λ (l : List (List ℕ)). text ++ parts_from place l) (sym is) ∙ h))
