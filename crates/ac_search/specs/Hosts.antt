-- Private: a search at some roots.
use Rattle.std.specs.Prelude.{◌≡◌, ◌<◌, ◌≤◌, ℕ, Bool, true, false, ◌&&◌, List, length, slice_index_or, Option, Some, None}
use Rattle.std.specs.List.{filter}
use Rattle.ac_query.specs.Asked.{Asked, slots_of}
use Rattle.ac_cloud.specs.World.{Provider}
use Rattle.ac_rules.specs.Judge.{is_candidate, is_open}
use Rattle.ac_prune.specs.Marks.{stand_at_marked}
use Rattle.ac_prune.specs.Search.{Search}
use Rattle.ac_prune.specs.QuerySearch.{choices_of}

-- a root is looked at: it is marked; without marks each is
abbrev pub is_looked_at : Option (List Bool) → ℕ → Bool
is_looked_at None r = true
is_looked_at (Some marks) r = slice_index_or marks r false

-- from one place on, up to another, there is no mark
abbrev pub AreUnmarked : List Bool → ℕ → ℕ → Type 0
AreUnmarked marks from to = (r : ℕ) → from ≤ r → r < to → slice_index_or marks r false ≡ false

-- there no root is looked at
abbrev pub AreDone : List Provider → Option (List Bool) → ℕ → ℕ → Type 0
AreDone all roots from to = (r : ℕ) → from ≤ r → r < to → r < length all → is_looked_at roots r ≡ false

-- a list stands at a root that is looked at
abbrev pub stands : List Provider → Option (List Bool) → List ℕ → Bool
stands all None t = true
stands all (Some marks) t = stand_at_marked all marks t

-- those of some lists that stand at such a root
abbrev pub standing : List Provider → Option (List Bool) → List (List ℕ) → List (List ℕ)
standing all None ts = ts
standing all (Some marks) ts = filter (stand_at_marked all marks) ts

-- a candidate that does
abbrev pub is_sought : List Provider → Asked → Option (List Bool) → List ℕ → Bool
is_sought all asked None t = is_candidate all asked t
is_sought all asked (Some marks) t = is_candidate all asked t && stand_at_marked all marks t

-- what a query looks for there
abbrev pub search_at : List Provider → Asked → Option (List Bool) → Search
search_at all asked marks = record {
  count = length all;
  width = length (slots_of asked);
  choices = choices_of all asked;
  is_open = λ list. is_open all asked list;
  is_wanted = λ list. is_sought all asked marks list;
}
