-- What is drawn in a loop: one step of what is still to come.
use Rattle.std.proofs.Common.{◌≡◌, ◌+◌, ◌-◌, ◌<◌, ℕ, List, [], ◌∷◌, ◌++◌, append_assoc, drop, get_or, length, map}
use Rattle.std.specs.List.{flat_map, range_with_len}
use Rattle.std.proofs.lemmas.List.{drop_more}
use Rattle.ac_cloud.proofs.Ranges.{range_more}

-- of places, the next
pub next_place : {X : Type 0} (f : ℕ → List X) (n i : ℕ) (done : List X) → i < n
    → (done ++ f i) ++ flat_map f (range_with_len (i + 1) (n - (i + 1))) ≡ done ++ flat_map f (range_with_len i (n - i))
next_place f n i done low = rw (range_more n i low) (append_assoc done (f i) _)

-- the same where each gives one thing
pub next_one : {X : Type 0} (f : ℕ → X) (n i : ℕ) (done : List X) → i < n
    → (done ++ f i ∷ []) ++ map f (range_with_len (i + 1) (n - (i + 1))) ≡ done ++ map f (range_with_len i (n - i))
next_one f n i done low = rw (range_more n i low) (append_assoc done (f i ∷ []) _)

-- of the items of a list, each as it is shown, the next
pub next_item : {X Y Z : Type 0} (f : Y → List Z) (shown : X → Y) (xs : List X) (i : ℕ) (x : X) (done : List Z) → x ≡ get_or xs i x → i < length xs
    → (done ++ f (shown x)) ++ flat_map f (map shown (drop (i + 1) xs)) ≡ done ++ flat_map f (map shown (drop i xs))
next_item f shown xs i x done is low = rw (drop_more xs i x low, ← is) (append_assoc done (f (shown x)) _)

-- the same where each gives one thing
pub next_shown : {X Y : Type 0} (shown : X → Y) (xs : List X) (i : ℕ) (x : X) (done : List Y) → i < length xs
    → (done ++ shown (get_or xs i x) ∷ []) ++ map shown (drop (i + 1) xs) ≡ done ++ map shown (drop i xs)
next_shown shown xs i x done low = rw (drop_more xs i x low) (append_assoc done (shown (get_or xs i x) ∷ []) _)
