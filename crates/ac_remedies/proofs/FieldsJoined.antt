-- Texts with a byte between each two, and the fields of a header so.
use Rattle.std.proofs.Common.{◌≡◌, ◌∙◌, sym, ℕ, ◌+◌, zero, suc, List, [], ◌∷◌, ◌++◌, Some, None, drop, ap, refl, append-nil, unwrap_or, add-one}
use Rattle.std.specs.List.{flat_map, join_with_byte}
use Rattle.csv.specs.Records.{field_at}

-- the first text, and behind it each further one behind a byte
pub joined_on : (c : ℕ) (x : List ℕ) (xs : List (List ℕ)) → x ++ flat_map (λ text. c ∷ text) xs ≡ join_with_byte c (x ∷ xs)
joined_on c x [] = append-nil x
joined_on c x (y ∷ ys) = ap (λ (rest : List ℕ). x ++ c ∷ rest) (joined_on c y ys)

-- the field at a place and those behind it, or none from there on
next_from : (fields : List (List ℕ)) (at : ℕ) (x : List ℕ) → Some x ≡ field_at fields at → drop at fields ≡ x ∷ drop (suc at) fields
unfolding field_at
next_from [] at x is = cc
next_from (f ∷ fields) zero x is = sym (ap (λ o. unwrap_or o x ∷ fields) is)
next_from (f ∷ fields) (suc at) x is = next_from fields at x is

pub next_field : (fields : List (List ℕ)) (at : ℕ) (x : List ℕ) → Some x ≡ field_at fields at → drop at fields ≡ x ∷ drop (at + 1) fields
next_field fields at x is = rw add-one (next_from fields at x is)

pub no_field : (fields : List (List ℕ)) (at : ℕ) → None ≡ field_at fields at → drop at fields ≡ []
unfolding field_at
no_field [] zero is = refl
no_field [] (suc at) is = refl
no_field (f ∷ fields) zero is = cc
no_field (f ∷ fields) (suc at) is = no_field fields at is

pub first_on : (fields : List (List ℕ)) (x : List ℕ) → Some x ≡ field_at fields 0 → x ++ flat_map (λ field. 44 ∷ field) (drop 1 fields) ≡ join_with_byte 44 fields
first_on fields x is = joined_on 44 x (drop 1 fields) ∙ ap (join_with_byte 44) (sym (next_field fields 0 x is))
