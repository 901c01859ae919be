-- Whether a query has a candidate, and where it has none, whether it would have one without one of the things that it asks of several slots together.
use Rattle.std.specs.Prelude.{◌<◌, ◌⊎◌, ℕ, Bool, true, false, not, if◌then◌else◌, List, [], ◌++◌, map, get_or, length, codes, Option, Some, None}
use Rattle.std.specs.List.{flat_map, list_any, range_with_len}
use Rattle.ac_query.specs.Asked.{Asked, is_isolated}
use Rattle.ac_query.specs.Without.{without_policy, without_required, without_subtree}
use Rattle.ac_cloud.specs.World.{Provider}
use Rattle.ac_rules.specs.Pages.{candidates}
use Rattle.ac_rules.specs.Together.{is_empty}
use Rattle.ac_find.specs.Shown.Explained.{requires_some}
use Rattle.ac_base.specs.Writing.Pieces.{listed}
use Rattle.ac_search.specs.Shown.Walk.{MayStop}

abbrev pub has_candidate : List Provider → Asked → Bool
has_candidate all asked = not (is_empty (candidates all asked))

unfoldable pub candidates_line : Bool → List ℕ
candidates_line true = codes "candidates: some\n"
candidates_line false = codes "candidates: none\n"

-- ---- Without one thing

-- whether there is a candidate without each list of `same_subtree`, without the policy, and without what the group without a suffix requires, where
-- that is asked
pub record FoundWithout : Type 0 where
  pub subtrees : List Bool
  pub policy : Option Bool
  pub required : Option Bool

-- the group without a suffix requires a trait, or one of a list
abbrev pub asks_required : Asked → Bool
asks_required asked = list_any (λ g. requires_some g.0 g.1) asked.groups

-- without each of the first n lists, and without each of all
abbrev pub subtrees_found_before : List Provider → Asked → ℕ → List Bool
subtrees_found_before all asked n = map (λ k. has_candidate all (without_subtree k asked)) (range_with_len 0 n)

abbrev pub subtrees_found : List Provider → Asked → List Bool
subtrees_found all asked = subtrees_found_before all asked (length asked.subtrees)

abbrev pub policy_found : List Provider → Asked → Option Bool
policy_found all asked = if is_isolated asked then Some (has_candidate all (without_policy asked)) else None

abbrev pub required_found : List Provider → Asked → Option Bool
required_found all asked = if asks_required asked then Some (has_candidate all (without_required asked)) else None

-- where there is a candidate, nothing is taken away
abbrev pub found_without : List Provider → Asked → Bool → FoundWithout
found_without all asked true = record { subtrees = []; policy = None; required = None }
found_without all asked false = record { subtrees = subtrees_found all asked; policy = policy_found all asked; required = required_found all asked }

-- the search for one of these candidates may stop, with so many tries
abbrev pub WithoutMayStop : Option ℕ → List Provider → Asked → Type 0
WithoutMayStop tries all asked =
    ((k : ℕ) × (k < length asked.subtrees) × MayStop tries all (without_subtree k asked) None)
    ⊎ (MayStop tries all (without_policy asked) None ⊎ MayStop tries all (without_required asked) None)

-- a search of an explanation may stop
abbrev pub ExplanationMayStop : Option ℕ → List Provider → Asked → Type 0
ExplanationMayStop tries all asked = MayStop tries all asked None ⊎ WithoutMayStop tries all asked

-- ---- What is told of that

-- the end of a line
abbrev pub outcome : Bool → List ℕ
outcome true = codes ": some\n"
outcome false = codes ": none\n"

unfoldable pub subtree_line : List (List ℕ) → Bool → List ℕ
subtree_line suffixes found = listed (codes "without same_subtree=") suffixes ++ outcome found

abbrev pub subtree_lines : List (List (List ℕ)) → List Bool → List ℕ
subtree_lines lists found = flat_map (λ k. subtree_line (get_or lists k []) (get_or found k false)) (range_with_len 0 (length found))

unfoldable pub policy_line : Option Bool → List ℕ
policy_line None = []
policy_line (Some true) = codes "with group_policy=none: some\n"
policy_line (Some false) = codes "with group_policy=none: none\n"

unfoldable pub required_line : Option Bool → List ℕ
required_line None = []
required_line (Some true) = codes "without required: some\n"
required_line (Some false) = codes "without required: none\n"

-- a line for each thing that was taken away
unfoldable pub without_lines : Asked → FoundWithout → List ℕ
without_lines asked found = subtree_lines asked.subtrees found.subtrees ++ (policy_line found.policy ++ required_line found.required)
