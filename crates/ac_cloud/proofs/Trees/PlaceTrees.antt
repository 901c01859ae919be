-- Trees by places and trees by ids.
use Rattle.ac_cloud.proofs.Common.{◌≡◌, ◌<◌, ◌∙◌, ℕ, zero, suc, List, [], ◌∷◌, Option, refl, ap, inl, inr, option_map, climb, up, Above, parent_in, AreWithin}
use Rattle.ac_base.proofs.Small.{some_or_none}

-- each place has a name, and parents agree
module _ (parent : ℕ → Option ℕ) (name : ℕ → ℕ) (n : ℕ) (parents : List (Option ℕ)) (within : AreWithin n parents)
    (agree : (i : ℕ) → i < n → parent (name i) ≡ option_map name (parent_in parents i)) where
  one_step : (i : ℕ) → i < n → (up (parent_in parents) i < n) × (up parent (name i) ≡ name (up (parent_in parents) i))
  one_step i h = elim (some_or_none (parent_in parents i)) [
    | inl p ↦ rw (agree i h, p.1) (within i p.0 h p.1, refl)
    | inr e ↦ rw (agree i h, e) (h, refl)
  ]

  -- many steps
  pub steps : (k i : ℕ) → i < n → (climb (up (parent_in parents)) k i < n) × (climb (up parent) k (name i) ≡ name (climb (up (parent_in parents)) k i))
  steps zero i h = (h, refl)
  steps (suc k) i h =
      let one = one_step i h in
      let rest = steps k (up (parent_in parents) i) one.0 in
      (rest.0, ap (climb (up parent) k) one.1 ∙ rest.1)

-- where steps lead is above
pub above_climb : (parent : ℕ → Option ℕ) (k p : ℕ) → Above parent (climb (up parent) k p) p
above_climb parent zero p = ([], refl)
above_climb parent (suc k) p = elim (some_or_none (parent p)) [
  | inl q ↦ let rest = above_climb parent k q.0 in rw q.1 (q.0 ∷ rest.0, (q.1, rest.1))
  | inr e ↦ rw e (above_climb parent k p)
]
