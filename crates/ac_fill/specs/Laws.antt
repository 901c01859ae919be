-- What holds of placements.
use Rattle.std.specs.Prelude.{◌≡◌, ◌<◌, ◌≤◌, ℕ, true, false, List, [], ◌∷◌, length, map, take, ⊤, Option, Some, None}
use Rattle.std.specs.List.{AllByRecursion}
use Rattle.std.specs.List.Sorted.{IsStrictlySortedBy}
use Rattle.std.specs.Map.{keys_of}
use Rattle.ac_base.specs.Quantities.{capacity}
use Rattle.ac_base.specs.Texts.{text_cmp}
use Rattle.ac_cloud.specs.World.{Provider, UsedInventory, entry_in, provider_at}
use Rattle.ac_query.specs.declared.version.Version.{Version}
use Rattle.ac_query.specs.Asked.{Asked, slots_of}
use Rattle.ac_query.specs.Faults.{query_fault}
use Rattle.ac_query.specs.Laws.Gathered.{asked_by}
use Rattle.ac_query.specs.Pairs.{pairs_of}
use Rattle.ac_rules.specs.Claims.{claimed, is_in_use, released}
use Rattle.ac_rules.specs.Judge.{is_candidate}
use Rattle.ac_rules.specs.Laws.{AreInOrder}
use Rattle.ac_rules.specs.Lists.{IsListBelow, lex_lt, head_of}
use Rattle.ac_rules.specs.Pages.{candidates, ids_of}
use Rattle.ac_rules.specs.Placed.{Placed, assigned}
use Rattle.ac_rules.specs.Together.{sum_on}
use Rattle.ac_fill.specs.Bounds.{most_placed}
use Rattle.ac_fill.specs.Filled.{asks_units, filled, after}

-- each of some placements is the first candidate in the world that the ones before it left
abbrev pub AreFirstFits : List Provider → Asked → List (List ℕ) → Type 0
AreFirstFits all asked [] = ⊤
AreFirstFits all asked (t ∷ ts) = (head_of (candidates all asked) ≡ Some t) × AreFirstFits (claimed all (assigned asked t)) asked ts

abbrev pub FillsFirstFits : Type 0
FillsFirstFits = (limit : Option ℕ) (all : List Provider) (asked : Asked) → AreFirstFits all asked (filled limit all asked)

-- no list of ids stands before one that it comes behind
abbrev pub NeverFalls : List (List ℕ) → Type 0
NeverFalls [] = ⊤
NeverFalls (x ∷ xs) = AllByRecursion (λ y. lex_lt y x ≡ false) xs × NeverFalls xs

-- no placement's token stands before that of an earlier one
abbrev pub FillsInOrder : Type 0
FillsInOrder = (limit : Option ℕ) (all : List Provider) (asked : Asked) → AreInOrder all → NeverFalls (map (λ t. ids_of all t) (filled limit all asked))

-- after the placements without a limit there is no candidate
abbrev pub FillsUp : Type 0
FillsUp = (all : List Provider) (asked : Asked) → asks_units asked ≡ true → candidates (after all asked (filled None all asked)) asked ≡ []

-- the placements up to a limit are the first of those without one
abbrev pub LimitTakesFirst : Type 0
LimitTakesFirst = (n : ℕ) (all : List Provider) (asked : Asked) → asks_units asked ≡ true → filled (Some n) all asked ≡ take n (filled None all asked)

-- there is an inventory, and no more of it is used than its capacity
abbrev pub IsWithin : Option UsedInventory → Type 0
IsWithin None = ⊥
IsWithin (Some had) = had.used ≤ capacity had.inventory

-- after the claim of a candidate that is so wherever it takes anything
abbrev pub NeverOverbooks : Type 0
NeverOverbooks = (all : List Provider) (asked : Asked) (t : List ℕ) → is_candidate all asked t ≡ true → (ix : ℕ) (class : List ℕ)
    → 0 < sum_on (assigned asked t) ix class → IsWithin (entry_in (provider_at (claimed all (assigned asked t)) ix) class)

-- two claims leave the same world in either order
abbrev pub ClaimsCommute : Type 0
ClaimsCommute = (all : List Provider) (xs ys : List Placed) → claimed (claimed all xs) ys ≡ claimed (claimed all ys) xs

-- the classes of each provider rise, as those of a cloud do
abbrev pub ClassesRise : List Provider → Type 0
ClassesRise all = (ix : ℕ) → ix < length all → IsStrictlySortedBy text_cmp (keys_of (provider_at all ix).entries)

-- what is released, and claimed again, leaves all as it was, if it was in use
abbrev pub ClaimUndoes : Type 0
ClaimUndoes = (all : List Provider) (xs : List Placed) → ClassesRise all → is_in_use all xs ≡ true → claimed (released all xs) xs ≡ all

-- each query that is accepted asks for an amount of a class
abbrev pub AcceptedAsk : Type 0
AcceptedAsk = (version : Version) (query : List ℕ) → query_fault version query ≡ None → asks_units (asked_by version (pairs_of query)) ≡ true

-- each of some placements is a candidate in the world that the ones before it left
abbrev pub ArePlaced : List Provider → Asked → List (List ℕ) → Type 0
ArePlaced all asked [] = ⊤
ArePlaced all asked (t ∷ ts) =
    IsListBelow (length all) (length (slots_of asked)) t × (is_candidate all asked t ≡ true) × ArePlaced (claimed all (assigned asked t)) asked ts

-- no list of placements is longer than the bound
abbrev pub NoneIsLonger : Type 0
NoneIsLonger = (all : List Provider) (asked : Asked) (ts : List (List ℕ)) → asks_units asked ≡ true → ArePlaced all asked ts → length ts ≤ most_placed all asked

-- nor are those by first fit more
abbrev pub FillsWithin : Type 0
FillsWithin = (limit : Option ℕ) (all : List Provider) (asked : Asked) → asks_units asked ≡ true → length (filled limit all asked) ≤ most_placed all asked
