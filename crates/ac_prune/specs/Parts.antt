-- The parts of the forest in which the providers of a list of `same_subtree` can stand together.
use Rattle.std.specs.Prelude.{◌≡◌, ℕ, ◌<◌, Bool, true, List, length, Option, slice_index, slice_index_or, IfSome}
use Rattle.std.specs.Option.{option_map}
use Rattle.ac_query.specs.Asked.{Asked, slots_of, lists_suffix}
use Rattle.ac_cloud.specs.World.{Provider, id_at, parent_of}
use Rattle.ac_rules.specs.Lists.{IsListBelow}
use Rattle.ac_rules.specs.Placed.{slot_at}
use Rattle.ac_rules.specs.Judge.{is_candidate}
use Rattle.ac_prune.specs.QuerySearch.{choice_of}

-- a list of names names a slot
abbrev pub IsNamed : Asked → List (List ℕ) → ℕ → Type 0
IsNamed asked names s = (s < length (slots_of asked)) × (lists_suffix names (slot_at asked s).suffix ≡ true)

-- In a candidate, those of a list have a part each, and all have the same.
pub record AreParts (all : List Provider) (asked : Asked) (names : List (List ℕ)) (parts : List ℕ) : Type 0 where
  pub count : length parts ≡ length all
  pub within : (t : List ℕ) (s : ℕ) → IsListBelow (length all) (length (slots_of asked)) t → is_candidate all asked t ≡ true → IsNamed asked names s
      → slice_index parts (slice_index t s) < length all
  pub one : (t : List ℕ) (s u : ℕ) → IsListBelow (length all) (length (slots_of asked)) t → is_candidate all asked t ≡ true → IsNamed asked names s → IsNamed asked names u
      → slice_index parts (slice_index t s) ≡ slice_index parts (slice_index t u)

-- ---- How they are found

-- the providers of a list are marked, and no mark is lost
pub record AreMarked (old : List Bool) (list : List ℕ) (new : List Bool) : Type 0 where
  pub count : length new ≡ length old
  pub kept : (p : ℕ) → slice_index_or old p true ≡ true → slice_index_or new p true ≡ true
  pub marked : (j : ℕ) → j < length list → slice_index_or new (slice_index list j) true ≡ true

-- each choice of a slot that a list names is marked
abbrev pub AreTops : List Provider → Asked → List (List ℕ) → List Bool → Type 0
AreTops all asked names tops = (s j : ℕ) → IsNamed asked names s → j < length (choice_of all asked (slot_at asked s)) → slice_index_or tops (slice_index (choice_of all asked (slot_at asked s)) j) true ≡ true

-- a top has a part, and a provider whose parent has one is of that part
pub record IsLinked (all : List Provider) (tops : List Bool) (parts : List ℕ) (p : ℕ) : Type 0 where
  pub top : slice_index_or tops p true ≡ true → slice_index parts p < length all
  pub parent : Option ℕ
  pub is : option_map (id_at all) parent ≡ parent_of all (id_at all p)
  pub same : IfSome parent (λ q. (q < length all) × (slice_index parts q < length all → slice_index parts p ≡ slice_index parts q))

abbrev pub AreLinked : List Provider → List Bool → List ℕ → Type 0
AreLinked all tops parts = (p : ℕ) → p < length all → IsLinked all tops parts p

-- who has the part of one of a list keeps it
pub record KeepSeen (old list new : List ℕ) : Type 0 where
  pub count : length new ≡ length old
  pub kept : (p j : ℕ) → p < length old → j < length list → slice_index old (slice_index list j) ≡ slice_index old p → slice_index new p ≡ slice_index old p
