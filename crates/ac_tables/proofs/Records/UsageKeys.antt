-- The checks of a usage's key.
use Rattle.ac_tables.proofs.Common.{◌≡◌, ◌<◌, ℕ, zero, suc, Bool, List, [], ◌∷◌, length, get_or, refl, sym, ap₂, arith, ◌==◌, ◌&&◌, ◌||◌, All, filter, list_any, bytes_eq, cases_Bool, class_bytes, InventoryNumbers, ClassName, IsRising, is_inventory_of, inventory_records_shown, same_place, eq_turned, TableRow}

pub any_filter : {X : Type 0} (p q : X → Bool) (xs : List X) → list_any q (filter p xs) ≡ list_any (λ x. p x && q x) xs
any_filter p q [] = refl
any_filter p q (x ∷ xs) = grind (arith, cases_Bool, any_filter p q xs)

module _ (ids : List ℕ) (rising : IsRising ids) (place : ℕ) (inside : place < length ids) (class : List ℕ) where
  pub any_shown : (rows : List (TableRow ClassName InventoryNumbers)) → All (λ r. r.place < length ids) rows
      → list_any (λ r. (r.place == place) && bytes_eq (class_bytes r.key) class) rows ≡ list_any (is_inventory_of (get_or ids place 0) class) (inventory_records_shown ids rows)
  any_shown [] all = refl
  any_shown (r ∷ rows) all =
      ap₂ (λ a b. a || b) (ap₂ (λ a b. a && b) (sym (same_place ids rising r.place place (all zero r (omega arith)) inside)) (eq_turned (class_bytes r.key) class))
      (any_shown rows (λ k d h. all (suc k) d (omega arith)))
