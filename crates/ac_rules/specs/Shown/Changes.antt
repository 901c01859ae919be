-- Used amounts, as they change need by need.
use Rattle.std.specs.Prelude.{ℕ, ◌+◌, ◌-◌, ◌==◌, ◌&&◌, Bool, min, nat_le, List, if◌then◌else◌}
use Rattle.std.specs.List.{list_all}
use Rattle.ac_base.specs.Quantities.{capacity}
use Rattle.ac_cloud.specs.Amounts.{with_amounts}
use Rattle.ac_cloud.specs.World.{UsedInventory, Provider, provider_at, used_of}
use Rattle.ac_rules.specs.Placed.{Placed}
use Rattle.ac_rules.specs.Together.{amount_of, sum_on}
use Rattle.ac_rules.specs.declared.claims.Change.{Change}
use Rattle.ac_rules.specs.declared.claims.Change.TheVariants.{Claim, Release, Restore}

-- how much is used of an inventory after a sum was claimed, as far as there is room for it, or released, or taken again, as far as it can be counted
abbrev pub used_after : Change → ℕ → UsedInventory → ℕ
used_after Claim sum had = had.used + min sum (capacity had.inventory - had.used)
used_after Release sum had = had.used - sum
used_after Restore sum had = had.used + min sum (18446744073709551615 - had.used)

-- all providers after that, of sums by place and class
unfoldable pub changed : Change → (ℕ → List ℕ → ℕ) → List Provider → List Provider
changed change sum all = with_amounts (λ ix class had. used_after change (sum ix class) had) all

-- what needs ask of the provider at a place
abbrev pub asked_of_one : ℕ → List (List ℕ × ℕ) → ℕ → List ℕ → ℕ
asked_of_one place needs ix class = if place == ix then amount_of needs class else 0

-- so much is used of a class of a provider, and no more than can be counted
abbrev pub is_counted_sum : List Provider → List Placed → ℕ → List ℕ → Bool
is_counted_sum all xs ix class = nat_le (sum_on xs ix class) (used_of (provider_at all ix) class) && nat_le (used_of (provider_at all ix) class) 18446744073709551615

-- the same of the provider of a slot, in each of the slot's classes
unfoldable pub uses_counted_sums : List Provider → List Placed → Placed → Bool
uses_counted_sums all xs x = list_all (λ need. is_counted_sum all xs x.provider need.0) x.slot.needs

-- of each slot's provider
unfoldable pub is_counted_in_use : List Provider → List Placed → Bool
is_counted_in_use all xs = list_all (λ x. uses_counted_sums all xs x) xs
