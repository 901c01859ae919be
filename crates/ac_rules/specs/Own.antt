-- The four rules of a single slot and its provider.
use Rattle.std.specs.Prelude.{ℕ, ◌==◌, ◌&&◌, ◌||◌, Bool, true, false, not, List, Option, None, Some, if◌then◌else◌}
use Rattle.std.specs.List.{list_all, list_any}
use Rattle.std.specs.Option.{is_none, is_some, option_map}
use Rattle.ac_base.specs.Quantities.{InventoryNumbers, units}
use Rattle.ac_query.specs.Pairs.Values.{AggregateRule}
use Rattle.ac_query.specs.Asked.{Group}
use Rattle.ac_cloud.specs.World.{Provider, provider_at, place_of, root_of, root_provider, entry_in, has_trait, is_member}
use Rattle.ac_rules.specs.Placed.{Placed}

-- ---- Units

-- the inventory that a provider has of a class
abbrev pub inventory_of : Provider → List ℕ → Option InventoryNumbers
inventory_of p class = option_map (λ own_entry. own_entry.inventory) (entry_in p class)

-- an inventory is there, and its units admit an amount
abbrev pub admits : Option InventoryNumbers → ℕ → Bool
admits None amount = false
admits (Some inventory) amount = units inventory amount

-- Units: of each class of the slot the provider has an inventory whose units admit the slot's own amount.
unfoldable pub units_fit : List Provider → Placed → Bool
units_fit all x = list_all (λ need. admits (inventory_of (provider_at all x.provider) need.0) need.1) x.slot.needs

-- ---- SlotTraits

abbrev pub has_all : Provider → List (List ℕ) → Bool
has_all p names = list_all (λ name. has_trait p name) names

abbrev pub has_none : Provider → List (List ℕ) → Bool
has_none p names = list_all (λ name. not (has_trait p name)) names

abbrev pub has_any : Provider → List (List ℕ) → Bool
has_any p names = list_any (λ name. has_trait p name) names

-- of each list the provider has a trait
abbrev pub has_one_of_each : Provider → List (List (List ℕ)) → Bool
has_one_of_each p lists = list_all (λ names. has_any p names) lists

-- each required trait of a group, and of each any-of list one
abbrev pub has_required : Provider → Group → Bool
has_required p g = has_all p g.required && has_one_of_each p g.any_of

-- SlotTraits: the provider has no forbidden trait of the group, and in a suffixed group each required one and of each any-of list one.
unfoldable pub traits_fit : List Provider → Placed → Bool
traits_fit all x =
    has_none (provider_at all x.provider) x.slot.group.forbidden
    && (is_none x.slot.suffix || has_required (provider_at all x.provider) x.slot.group)

-- ---- Aggregates

-- an aggregate counts as the provider's: it is its own, or in the unsuffixed group its root's
abbrev pub counts_in : List Provider → Placed → ℕ → Bool
counts_in all x aggregate =
    is_member (provider_at all x.provider) aggregate
    || (is_none x.slot.suffix && is_member (root_provider all (provider_at all x.provider)) aggregate)

-- the plain form asks for one of the aggregates, the forbidding form for none
unfoldable pub meets_rule : List Provider → Placed → AggregateRule → Bool
meets_rule all x rule =
    if rule.forbids then not (list_any (λ a. counts_in all x a) rule.ids) else list_any (λ a. counts_in all x a) rule.ids

-- Aggregates: each rule of the group is met.
unfoldable pub aggregates_fit : List Provider → Placed → Bool
aggregates_fit all x = list_all (λ rule. meets_rule all x rule) x.slot.group.member_of

-- ---- Tree

-- the provider of an id is there, and has the same root
abbrev pub is_in_tree : List Provider → Provider → Option ℕ → Bool
is_in_tree all p None = true
is_in_tree all p (Some id) = is_some (place_of all id) && (root_of all p.id == root_of all id)

-- Tree: where the group names a provider, the slot's provider is in its tree.
unfoldable pub tree_fits : List Provider → Placed → Bool
tree_fits all x = is_in_tree all (provider_at all x.provider) x.slot.group.in_tree

-- ---- All four

-- the rules of a slot alone
unfoldable pub fits : List Provider → Placed → Bool
fits all x = units_fit all x && traits_fit all x && aggregates_fit all x && tree_fits all x
