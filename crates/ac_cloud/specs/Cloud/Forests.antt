-- Parents and roots, by places.
use Rattle.std.specs.Prelude.{◌≡◌, ◌<◌, ℕ, List, length, get_or, Option, None}
use Rattle.ac_cloud.specs.Cloud.Places.{parent_in, AreWithin}
use Rattle.ac_cloud.specs.Trees.{top}

-- Each of n providers has a parent that is one of them, or none, and its root: where its chain of parents ends.
pub record IsForest (n : ℕ) (parents : List (Option ℕ)) (roots : List ℕ) : Type 0 where
  pub with_parents : length parents ≡ n
  pub with_roots : length roots ≡ n
  pub within : AreWithin n parents
  pub rooted : (i : ℕ) → i < n → get_or roots i 0 ≡ top (parent_in parents) n i
  pub ends : (i : ℕ) → i < n → parent_in parents (get_or roots i 0) ≡ None
