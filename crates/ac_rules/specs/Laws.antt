-- What holds of candidates, open lists and pages.
use Rattle.std.specs.Prelude.{◌≡◌, ◌<◌, ◌+◌, ℕ, true, false, List, [], ◌∷◌, ◌++◌, map, length, Option, Some, None, ◌≢◌, ◌↔◌, slice_index_or}
use Rattle.std.specs.List.{AllByRecursion}
use Rattle.ac_query.specs.Asked.{Asked, slots_of, is_isolated}
use Rattle.ac_cloud.specs.World.{Provider, provider_at, id_at}
use Rattle.ac_cloud.specs.Laws.{DifferInAmounts}
use Rattle.ac_rules.specs.Claims.{claimed, released, is_in_use}
use Rattle.ac_rules.specs.Lists.{IsListBelow, IsRising, lex_lt}
use Rattle.ac_rules.specs.Placed.{Placed, assigned}
use Rattle.ac_rules.specs.Together.{sum_on, holds, sums, is_set_apart, isolate}
use Rattle.ac_rules.specs.Judge.{judge, is_candidate, is_open}
use Rattle.ac_rules.specs.declared.verdict.Verdict.TheVariants.{Candidate}
use Rattle.ac_rules.specs.Pages.{candidates, ids_of, is_after, rest, page}

-- the providers stand in the order of their ids
abbrev pub AreInOrder : List Provider → Type 0
AreInOrder all = (p q : ℕ) → p < q → q < length all → id_at all p < id_at all q

-- each front of a candidate is open
abbrev pub PrefixOpen : Type 0
PrefixOpen = (all : List Provider) (asked : Asked) (front more : List ℕ)
    → is_candidate all asked (front ++ more) ≡ true → is_open all asked front ≡ true

-- two limits together; without one of them there is none
abbrev pub both_limits : Option ℕ → Option ℕ → Option ℕ
both_limits None m = None
both_limits (Some n) None = None
both_limits (Some n) (Some m) = Some (n + m)

-- a page, and the one that goes on after the ids of its last list, are one page
abbrev pub PagesJoin : Type 0
PagesJoin = (all : List Provider) → AreInOrder all → (asked : Asked) (x : Option (List ℕ)) (n m : Option ℕ) (before : List (List ℕ)) (last : List ℕ)
    → page all asked x n ≡ before ++ last ∷ []
    → page all asked x n ++ page all asked (Some (ids_of all last)) m ≡ page all asked x (both_limits n m)

-- y is the least candidate after x
pub record IsLeastAfter (all : List Provider) (asked : Asked) (x : Option (List ℕ)) (y : List ℕ) : Type 0 where
  pub list : IsListBelow (length all) (length (slots_of asked)) y
  pub candidate : is_candidate all asked y ≡ true
  pub after : is_after all x y ≡ true
  pub least : (t : List ℕ) → IsListBelow (length all) (length (slots_of asked)) t → is_candidate all asked t ≡ true → is_after all x t ≡ true
      → lex_lt (ids_of all t) (ids_of all y) ≡ false

-- The ids of the candidates rise strictly, and what is left after x begins with the least candidate after x, be x a candidate or not.
pub record RestBegins (all : List Provider) (asked : Asked) : Type 0 where
  pub rising : IsRising (map (λ t. ids_of all t) (candidates all asked))
  pub first : (x : Option (List ℕ)) (y : List ℕ) (more : List (List ℕ)) → rest all asked x ≡ y ∷ more → IsLeastAfter all asked x y

-- no rule is broken exactly at the candidates
abbrev pub JudgesCandidates : Type 0
JudgesCandidates = (all : List Provider) (asked : Asked) (list : List ℕ) → (judge all asked list ≡ Candidate) ↔ (is_candidate all asked list ≡ true)

-- each amount that these slots ask for is above 0
abbrev pub AskAmounts : List Placed → Type 0
AskAmounts xs = AllByRecursion (λ x. AllByRecursion (λ need. 0 < need.1) x.slot.needs) xs

-- wherever the sum of a class on a provider is above 0, the provider has room for it
abbrev pub IsFull : List Provider → List Placed → Type 0
IsFull all xs = (ix : ℕ) (class : List ℕ) → 0 < sum_on xs ix class → holds (provider_at all ix) class (sum_on xs ix class) ≡ true

-- Sums says this of every provider and class, where each amount is above 0.
abbrev pub SumsSayFull : Type 0
SumsSayFull = (all : List Provider) (xs : List Placed) → AskAmounts xs → (sums all xs ≡ true) ↔ IsFull all xs

-- of two slots at different places that are suffixed and have classes, the providers differ
abbrev pub StandApart : List Placed → Type 0
StandApart xs = (i j : ℕ) (d : Placed) → i < j → j < length xs
    → is_set_apart (slice_index_or xs i d).slot ≡ true → is_set_apart (slice_index_or xs j d).slot ≡ true
    → (slice_index_or xs i d).provider ≢ (slice_index_or xs j d).provider

-- Isolate says this, where the query asks for it.
abbrev pub IsolateSaysApart : Type 0
IsolateSaysApart = (asked : Asked) (xs : List Placed) → is_isolated asked ≡ true → (isolate asked xs ≡ true) ↔ StandApart xs

-- Where a list is a candidate after a claim, it was one before, whatever was claimed.
abbrev pub ClaimsNarrow : Type 0
ClaimsNarrow = (all : List Provider) (xs : List Placed) (asked : Asked) (list : List ℕ) → is_candidate (claimed all xs) asked list ≡ true → is_candidate all asked list ≡ true

-- What is claimed and released again leaves all as it was.
abbrev pub ReleaseUndoes : Type 0
ReleaseUndoes = (all : List Provider) (xs : List Placed) → released (claimed all xs) xs ≡ all

-- A candidate that is claimed is in use.
abbrev pub ClaimsInUse : Type 0
ClaimsInUse = (all : List Provider) (asked : Asked) (list : List ℕ) → is_candidate all asked list ≡ true → is_in_use (claimed all (assigned asked list)) (assigned asked list) ≡ true

-- Nothing but used amounts changes.
abbrev pub ClaimsAlone : Type 0
ClaimsAlone = (all : List Provider) (xs : List Placed) → DifferInAmounts all (claimed all xs) × DifferInAmounts all (released all xs)
