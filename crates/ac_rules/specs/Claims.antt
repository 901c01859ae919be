-- What a candidate takes of its providers, and what is given back.
use Rattle.std.specs.Prelude.{◌+◌, ◌-◌, ℕ, Bool, nat_le, List, Option, None, Some, if◌then◌else◌}
use Rattle.std.specs.List.{list_all}
use Rattle.ac_cloud.specs.Amounts.{with_amounts}
use Rattle.ac_cloud.specs.World.{Provider, provider_at, used_of}
use Rattle.ac_query.specs.Asked.{Asked}
use Rattle.ac_rules.specs.Judge.{judge}
use Rattle.ac_rules.specs.Placed.{Placed, assigned}
use Rattle.ac_rules.specs.Together.{sum_on}
use Rattle.ac_rules.specs.declared.verdict.Verdict.{Verdict}

-- Of each class of each provider as much more is used as all slots ask of it.
unfoldable pub claimed : List Provider → List Placed → List Provider
claimed all xs = with_amounts (λ ix class had. had.used + sum_on xs ix class) all

-- as much less
unfoldable pub released : List Provider → List Placed → List Provider
released all xs = with_amounts (λ ix class had. had.used - sum_on xs ix class) all

-- Of the provider of a slot as much is used, of each of the slot's classes, as all slots ask of it, or more.
unfoldable pub uses_sums : List Provider → List Placed → Placed → Bool
uses_sums all xs x = list_all (λ need. nat_le (sum_on xs x.provider need.0) (used_of (provider_at all x.provider) need.0)) x.slot.needs

-- It is so of each slot's provider.
unfoldable pub is_in_use : List Provider → List Placed → Bool
is_in_use all xs = list_all (λ x. uses_sums all xs x) xs

-- What is said of a list that is to be taken in the place of another, of which so much is used: its verdict where the other's is given back. Nothing, where
-- not so much is used.
unfoldable pub move_verdict : List Provider → Asked → List ℕ → List ℕ → Option Verdict
move_verdict all asked from to = if is_in_use all (assigned asked from) then Some (judge (released all (assigned asked from)) asked to) else None

-- the providers, where it is taken in its place
unfoldable pub moved : List Provider → Asked → List ℕ → List ℕ → List Provider
moved all asked from to = claimed (released all (assigned asked from)) (assigned asked to)
