-- The nine rules in their order: candidates, the first rule that is broken, and fronts that are still open.
use Rattle.std.specs.Prelude.{ℕ, Bool, if◌then◌else◌, ◌&&◌, List, [], ◌∷◌}
use Rattle.std.specs.List.{list_all}
use Rattle.ac_query.specs.Asked.{Asked}
use Rattle.ac_cloud.specs.World.{Provider}
use Rattle.ac_rules.specs.Placed.{Placed, assigned}
use Rattle.ac_rules.specs.Own.{units_fit, traits_fit, aggregates_fit, tree_fits}
use Rattle.ac_rules.specs.Together.{collective, sums, isolate, subtree, anchor}
use Rattle.ac_rules.specs.declared.verdict.Rule.{Rule}
use Rattle.ac_rules.specs.declared.verdict.Rule.TheVariants.{Units, SlotTraits, Aggregates, Tree, Collective, Sums, Isolate, Subtree, Anchor}
use Rattle.ac_rules.specs.declared.verdict.Verdict.{Verdict}
use Rattle.ac_rules.specs.declared.verdict.Verdict.TheVariants.{Candidate, Broken}

-- a rule, and whether it holds
pub record Test : Type 0 where
  pub rule : Rule
  pub holds : Bool

abbrev pub test : Rule → Bool → Test
test rule holds = record { rule = rule; holds = holds }

-- all rules, in their order
unfoldable pub tests : List Provider → Asked → List Placed → List Test
tests all asked xs =
    test Units (list_all (λ x. units_fit all x) xs)
    ∷ (test SlotTraits (list_all (λ x. traits_fit all x) xs)
    ∷ (test Aggregates (list_all (λ x. aggregates_fit all x) xs)
    ∷ (test Tree (list_all (λ x. tree_fits all x) xs)
    ∷ (test Collective (collective all asked xs)
    ∷ (test Sums (sums all xs)
    ∷ (test Isolate (isolate asked xs)
    ∷ (test Subtree (subtree all asked xs)
    ∷ (test Anchor (anchor all asked xs) ∷ []))))))))

-- the first that doesn't hold
abbrev pub first_broken : List Test → Verdict
first_broken [] = Candidate
first_broken (t ∷ ts) = if t.holds then first_broken ts else Broken t.rule

abbrev pub all_hold : List Test → Bool
all_hold ts = list_all (λ t. t.holds) ts

-- the first rule, in their order, that a list of providers breaks at any place
unfoldable pub judge : List Provider → Asked → List ℕ → Verdict
judge all asked list = first_broken (tests all asked (assigned asked list))

-- a list of providers that meets all rules
unfoldable pub is_candidate : List Provider → Asked → List ℕ → Bool
is_candidate all asked list = all_hold (tests all asked (assigned asked list))

-- the rules that the front of a candidate must meet already
unfoldable pub is_open_at : List Provider → Asked → List Placed → Bool
is_open_at all asked xs =
    (list_all (λ x. units_fit all x) xs
    && list_all (λ x. traits_fit all x) xs
    && list_all (λ x. aggregates_fit all x) xs
    && list_all (λ x. tree_fits all x) xs)
    && (sums all xs && isolate asked xs && anchor all asked xs)

-- An open list: its slots' own rules, Sums, Isolate and Anchor hold. The empty list is open where the query takes some root.
unfoldable pub is_open : List Provider → Asked → List ℕ → Bool
is_open all asked list = is_open_at all asked (assigned asked list)
