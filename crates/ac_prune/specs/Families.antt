-- The lists of `same_subtree` of which a walk knows ahead.
use Rattle.std.specs.Prelude.{◌≡◌, ℕ, ◌<◌, true, false, List, length, slice_index, slice_index_or}
use Rattle.ac_query.specs.Asked.{Asked, slots_of}
use Rattle.ac_cloud.specs.World.{Provider}
use Rattle.ac_rules.specs.Judge.{is_candidate}
use Rattle.ac_rules.specs.Lists.{IsListBelow}
use Rattle.ac_prune.specs.Trees.{AreByPart}
use Rattle.ac_prune.specs.declared.families.Family.{Family}

-- a slot is named
abbrev pub Names : Family → ℕ → Type 0
Names family s = slice_index_or family.named.items s false ≡ true

-- In a candidate, the providers of the slots that are named have a part each, and all have the same.
pub record IsFamily (all : List Provider) (asked : Asked) (family : Family) : Type 0 where
  pub named : length family.named.items ≡ length (slots_of asked)
  pub first : family.first < length family.named.items → Names family family.first
  pub count : length family.parts.items ≡ length all
  pub within : (t : List ℕ) (s : ℕ) → IsListBelow (length all) (length (slots_of asked)) t → is_candidate all asked t ≡ true → Names family s → slice_index family.parts.items (slice_index t s) < length all
  pub one : (t : List ℕ) (s u : ℕ) → IsListBelow (length all) (length (slots_of asked)) t → is_candidate all asked t ≡ true → Names family s → Names family u
      → slice_index family.parts.items (slice_index t s) ≡ slice_index family.parts.items (slice_index t u)
  pub placed : AreByPart all asked family.parts.items family.places.items
