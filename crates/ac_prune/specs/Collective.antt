-- What the group without a suffix requires of its providers together, as a walk looks ahead for it.
use Rattle.std.specs.Prelude.{◌≡◌, ℕ, ◌+◌, ◌<◌, ◌≤◌, ◌&&◌, Bool, true, false, List, length, slice_index_or, Option}
use Rattle.std.specs.List.{All, list_any, Contains}
use Rattle.std.specs.Option.{is_none}
use Rattle.ac_query.specs.Asked.{Asked, Group, slots_of}
use Rattle.ac_cloud.specs.World.{Provider}
use Rattle.ac_rules.specs.Judge.{is_candidate}
use Rattle.ac_rules.specs.Lists.{IsListBelow}
use Rattle.ac_rules.specs.Placed.{assigned, slot_at}
use Rattle.ac_prune.specs.QuerySearch.{choice_of}
use Rattle.ac_prune.specs.Trees.Keys.{is_there}
use Rattle.ac_prune.specs.declared.collective.Collective.{Collective}
use Rattle.ac_prune.specs.declared.collective.Wanted.{Wanted}

-- in a candidate some slot without a suffix has a provider that gives it
abbrev pub IsAsked : List Provider → Asked → List Bool → Type 0
IsAsked all asked gives = (t : List ℕ) → IsListBelow (length all) (length (slots_of asked)) t → is_candidate all asked t ≡ true
    → list_any (λ x. is_none x.slot.suffix && slice_index_or gives x.provider false) (assigned asked t) ≡ true

-- no slot without a suffix from a place on has such a choice
abbrev pub IsLast : List Provider → Asked → List Bool → ℕ → Type 0
IsLast all asked gives last = (s p : ℕ) → s < length (slots_of asked) → is_none (slot_at asked s).suffix ≡ true
    → is_there (choice_of all asked (slot_at asked s)) p ≡ true → slice_index_or gives p false ≡ true → s < last

pub record IsWanted (all : List Provider) (asked : Asked) (wanted : Wanted) : Type 0 where
  pub count : length wanted.gives.items ≡ length all
  pub asked_so : IsAsked all asked wanted.gives.items
  pub until : IsLast all asked wanted.gives.items wanted.last

abbrev pub AreWanted : List Provider → Asked → Collective → Type 0
AreWanted all asked collective = All (IsWanted all asked) collective.wanted.items

-- neither a path nor a provider behind it gives it, and no slot behind that has a choice that does
pub record Lacks (wanted : Wanted) (path : List ℕ) (p : ℕ) : Type 0 where
  pub late : wanted.last ≤ length path + 1
  pub here : slice_index_or wanted.gives.items p false ≡ false
  pub before : list_any (λ q. slice_index_or wanted.gives.items q false) path ≡ false

-- a group of a query
abbrev pub IsGroupOf : Asked → Option (List ℕ) × Group → Type 0
IsGroupOf asked group = Contains asked.groups group
