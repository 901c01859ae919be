-- The world: what accepted tables state, with its trees and what is available in them.
use Rattle.std.specs.Prelude.{ℕ, Bool, ◌&&◌, ◌||◌, ◌==◌, ◌-◌, not, List, [], codes, length, get_or, Option, Some, None}
use Rattle.std.specs.Option.{unwrap_or, is_none, is_some, option_map, option_and_then}
use Rattle.std.specs.List.{list_any, position_from, filter, range_with_len}
use Rattle.std.specs.Str.{bytes_eq}
use Rattle.std.specs.Map.{lookup}
use Rattle.ac_base.specs.Quantities.{InventoryNumbers, capacity}
use Rattle.ac_base.specs.Sorted.{TextMap}
use Rattle.ac_cloud.specs.Trees.{top, is_in_chain}

-- what a provider has of a class, and how much of it is used (0 where no usage is told)
pub record UsedInventory : Type 0 where
  pub inventory : InventoryNumbers
  pub used : ℕ

-- a provider: its name, which is empty where it has none, its parent, what it has by class, its traits in byte order and its aggregates rising, each once
pub record Provider : Type 0 where
  pub id : ℕ
  pub name : List ℕ
  pub parent : Option ℕ
  pub entries : TextMap UsedInventory
  pub traits : List (List ℕ)
  pub aggregates : List ℕ

-- the sizes of what the tables state
pub record Sizes : Type 0 where
  pub providers : ℕ
  pub inventories : ℕ
  pub usages : ℕ
  pub traits : ℕ
  pub aggregates : ℕ

-- the providers in the order of their ids, and the sizes
pub record World : Type 0 where
  pub providers : List Provider
  pub sizes : Sizes

-- a provider for the places past the end
abbrev pub no_provider : Provider
no_provider = record { id = 0; name = []; parent = None; entries = []; traits = []; aggregates = [] }

-- the provider at a place of the rising order
abbrev pub provider_at : List Provider → ℕ → Provider
provider_at all ix = get_or all ix no_provider

-- its id
abbrev pub id_at : List Provider → ℕ → ℕ
id_at all ix = (provider_at all ix).id

-- it has this name; an empty text is no name
abbrev pub has_name : Provider → List ℕ → Bool
has_name p name = not (bytes_eq name []) && bytes_eq p.name name

abbrev pub is_provider : ℕ → Provider → Bool
is_provider id p = p.id == id

-- the place of the provider of this id, where there is one
abbrev pub place_of : List Provider → ℕ → Option ℕ
place_of all id = position_from (is_provider id) 0 all

-- the parent of the provider of this id, where it has one
abbrev pub parent_of : List Provider → ℕ → Option ℕ
parent_of all id = option_and_then (λ ix. (provider_at all ix).parent) (place_of all id)

-- the root of the tree of the provider of this id
abbrev pub root_of : List Provider → ℕ → ℕ
root_of all id = top (parent_of all) (length all) id

-- the provider at the root of a provider's tree
abbrev pub root_provider : List Provider → Provider → Provider
root_provider all p = provider_at all (unwrap_or (place_of all (root_of all p.id)) (length all))

-- a is above b, or is b
abbrev pub is_above : List Provider → ℕ → ℕ → Bool
is_above all a b = is_in_chain (parent_of all) (length all) a b

-- what a provider has of a class
abbrev pub entry_in : Provider → List ℕ → Option UsedInventory
entry_in p class = lookup (bytes_eq class) p.entries

-- how much of it is used: 0 where it has none
abbrev pub used_of : Provider → List ℕ → ℕ
used_of p class = unwrap_or (option_map (λ h. h.used) (entry_in p class)) 0

-- what is left of an inventory beside what is used, where there is one
abbrev pub left_of : Option InventoryNumbers → ℕ → ℕ
left_of None used = 0
left_of (Some i) used = capacity i - used

abbrev pub has_trait : Provider → List ℕ → Bool
has_trait p name = list_any (bytes_eq name) p.traits

abbrev pub is_member : Provider → ℕ → Bool
is_member p aggregate = list_any (λ a. a == aggregate) p.aggregates

-- a sharing provider
abbrev pub shares : Provider → Bool
shares p = has_trait p (codes "MISC_SHARES_VIA_AGGREGATE")

-- two providers have an aggregate in common
abbrev pub have_common_aggregate : Provider → Provider → Bool
have_common_aggregate p q = list_any (is_member q) p.aggregates

-- some provider of the tree of root r has an aggregate in common with p
abbrev pub is_associated : List Provider → Provider → ℕ → Bool
is_associated all p r = list_any (λ q. (root_of all q.id == r) && have_common_aggregate p q) all

-- r is a provider without a parent
abbrev pub is_root : List Provider → ℕ → Bool
is_root all r = is_some (place_of all r) && is_none (parent_of all r)

-- p is available in the tree of root r: it is of the tree, or shares and is associated with it
abbrev pub is_available : List Provider → Provider → ℕ → Bool
is_available all p r = is_root all r && ((root_of all p.id == r) || (shares p && is_associated all p r))

-- the same, by places
abbrev pub is_available_at : List Provider → ℕ → ℕ → Bool
is_available_at all ix root = is_available all (provider_at all ix) (id_at all root)

-- the places of all roots where a provider is available, rising
abbrev pub anchors_of : List Provider → ℕ → List ℕ
anchors_of all ix = filter (is_available_at all ix) (range_with_len 0 (length all))
