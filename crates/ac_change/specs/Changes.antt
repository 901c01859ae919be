-- Changes of a cloud: the providers that they leave, or why one of them can't be made.
use Rattle.std.specs.Prelude.{ℕ, zero, suc, ◌+◌, ◌-◌, ◌*◌, ◌^◌, Bool, true, false, ◌&&◌, ◌||◌, ◌==◌, not, nat_le, nat_lt, List, [], ◌∷◌, ◌++◌, codes, map, length, Option, Some, None, Result, Ok, Err, if◌then◌else◌}
use Rattle.std.specs.Fmt.{decimal}
use Rattle.std.specs.Option.{option_map, option_or, unwrap_or}
use Rattle.std.specs.Result.{result_err}
use Rattle.std.specs.List.{filter, list_any, sum_by}
use Rattle.std.specs.Ordering.{is_eq, is_lt, nat_cmp}
use Rattle.std.specs.Str.{bytes_eq}
use Rattle.std.specs.declared.cmp.Ordering.{Ordering}
use Rattle.ac_base.specs.Quantities.{InventoryNumbers, is_inventory}
use Rattle.ac_base.specs.Texts.{text_cmp}
use Rattle.ac_cloud.specs.Cloud.Hosts.{host_of}
use Rattle.ac_cloud.specs.Cloud.Places.{rank}
use Rattle.ac_cloud.specs.World.{Provider, Sizes, UsedInventory, World, id_at, is_member, root_of}
use Rattle.ac_cloud.specs.declared.cloud.provider_name.HostFault.{HostFault}
use Rattle.ac_cloud.specs.declared.cloud.provider_name.HostFault.TheVariants as host_fault
use Rattle.ac_change.specs.Trees.{ids_in}
use Rattle.ac_change.specs.declared.fault.ChangeKind.{ChangeKind}
use Rattle.ac_change.specs.declared.fault.ChangeKind.TheVariants as kind

-- ---- What changes

-- whom an edit touches: the provider that a text names, the root of its tree, all providers, or the members of an aggregate and all providers of their trees
pub data Scope : Type 0 where
  host : List ℕ → Scope
  root : List ℕ → Scope
  everyone : Scope
  members : ℕ → Scope

-- a number of an inventory, and what it becomes; a ratio is in millionths
pub data Setting : Type 0 where
  total : ℕ → Setting
  reserved : ℕ → Setting
  min_unit : ℕ → Setting
  max_unit : ℕ → Setting
  step_size : ℕ → Setting
  ratio : ℕ → Setting

-- what becomes of a provider: it gains or loses a trait, joins or leaves an aggregate, or its inventory of a class has another number
pub data Edit : Type 0 where
  gains : List ℕ → Edit
  loses : List ℕ → Edit
  joins : ℕ → Edit
  leaves : ℕ → Edit
  sets : List ℕ → Setting → Edit

-- an edit of those whom it touches; or the tree of a provider is gone, or there are so many more like it
pub data Change : Type 0 where
  edit : Scope → Edit → Change
  remove : List ℕ → Change
  add : ℕ → List ℕ → Change

-- ---- What an edit makes of a provider

-- an item among those that rise in this order, once
abbrev pub with_item : {X : Type 0} → (X → X → Ordering) → X → List X → List X
with_item cmp x xs = filter (λ y. is_lt (cmp y x)) xs ++ x ∷ filter (λ y. is_lt (cmp x y)) xs

-- the others
abbrev pub without_item : {X : Type 0} → (X → X → Ordering) → X → List X → List X
without_item cmp x xs = filter (λ y. not (is_eq (cmp y x))) xs

-- an inventory with another number
abbrev pub numbers_set : Setting → InventoryNumbers → InventoryNumbers
numbers_set (total n) i = record i { total = n }
numbers_set (reserved n) i = record i { reserved = n }
numbers_set (min_unit n) i = record i { min_unit = n }
numbers_set (max_unit n) i = record i { max_unit = n }
numbers_set (step_size n) i = record i { step_size = n }
numbers_set (ratio n) i = record i { ratio = n }

-- what a provider has of a class, with another number where it is this class
abbrev pub entry_set : List ℕ → Setting → List ℕ × UsedInventory → List ℕ × UsedInventory
entry_set class setting e = if bytes_eq class e.0 then (e.0, record e.1 { inventory = numbers_set setting e.1.inventory }) else e

-- the provider after the edit
abbrev pub edited : Edit → Provider → Provider
edited (gains name) p = record p { traits = with_item text_cmp name p.traits }
edited (loses name) p = record p { traits = without_item text_cmp name p.traits }
edited (joins aggregate) p = record p { aggregates = with_item nat_cmp aggregate p.aggregates }
edited (leaves aggregate) p = record p { aggregates = without_item nat_cmp aggregate p.aggregates }
edited (sets class setting) p = record p { entries = map (entry_set class setting) p.entries }

-- what a provider has of this class would be no inventory
abbrev pub is_spoilt : List ℕ → Setting → List ℕ × UsedInventory → Bool
is_spoilt class setting e = bytes_eq class e.0 && not (is_inventory (numbers_set setting e.1.inventory))

-- the edit would leave the provider what is no inventory
abbrev pub spoils : Edit → Provider → Bool
spoils (gains name) p = false
spoils (loses name) p = false
spoils (joins aggregate) p = false
spoils (leaves aggregate) p = false
spoils (sets class setting) p = list_any (is_spoilt class setting) p.entries

-- ---- Whom it touches

-- what is made of a value that is there
abbrev pub and_then : {X Y E : Type 0} → (X → Result Y E) → Result X E → Result Y E
and_then f (Ok value) = f value
and_then f (Err why) = Err why

-- the UUID of the provider at a place that was found
abbrev pub found_id : List Provider → Result ℕ HostFault → Result ℕ ChangeKind
found_id all (Ok ix) = Ok (id_at all ix)
found_id all (Err host_fault.Unknown) = Err kind.UnknownHost
found_id all (Err host_fault.Ambiguous) = Err kind.AmbiguousHost

-- the UUID of the provider that a text names, and of the root of its tree
abbrev pub host_id : List Provider → List ℕ → Result ℕ ChangeKind
host_id all text = found_id all (host_of all text)

abbrev pub host_root : List Provider → List ℕ → Result ℕ ChangeKind
host_root all text = and_then (λ id. Ok (root_of all id)) (host_id all text)

-- it is the one that was found
abbrev pub is_found : Result ℕ ChangeKind → ℕ → Bool
is_found (Ok found) id = id == found
is_found (Err why) id = false

-- some member of the aggregate is of the tree of this root
abbrev pub has_member : List Provider → ℕ → ℕ → Bool
has_member all aggregate r = list_any (λ q. is_member q aggregate && (root_of all q.id == r)) all

-- the provider is touched
abbrev pub is_touched : List Provider → Scope → Provider → Bool
is_touched all (host text) p = is_found (host_id all text) p.id
is_touched all (root text) p = is_found (host_root all text) p.id
is_touched all everyone p = true
is_touched all (members aggregate) p = has_member all aggregate (root_of all p.id)

-- why nobody can be
abbrev pub scope_fault : List Provider → Scope → Option ChangeKind
scope_fault all (host text) = result_err (host_id all text)
scope_fault all (root text) = result_err (host_id all text)
scope_fault all everyone = None
scope_fault all (members aggregate) = None

-- ---- What a change leaves

-- the providers after an edit of those whom it touches
abbrev pub edited_in : List Provider → Scope → Edit → List Provider
edited_in all scope e = map (λ p. if is_touched all scope p then edited e p else p) all

-- the edit would leave one of them what is no inventory
abbrev pub spoils_in : List Provider → Scope → Edit → Bool
spoils_in all scope e = list_any (λ p. is_touched all scope p && spoils e p) all

-- why an edit can't be made: what it sets would be no inventory, and of what a line may set that is so where more is reserved than there is
abbrev pub edit_fault : List Provider → Scope → Edit → Option ChangeKind
edit_fault all scope e = option_or (scope_fault all scope) (if spoils_in all scope e then Some kind.ReservedOverTotal else None)

-- the providers of the other trees
abbrev pub without_tree : List Provider → ℕ → List Provider
without_tree all r = filter (λ p. not (root_of all p.id == r)) all

-- the providers of one tree
abbrev pub tree_of : List Provider → ℕ → List Provider
tree_of all r = filter (λ p. root_of all p.id == r) all

-- the UUID of the copy of one of these: copies stand one after another, in their order
abbrev pub id_copied : List ℕ → ℕ → ℕ → ℕ
id_copied ids first id = first + unwrap_or (rank ids id) 0

-- the name of the copy of this number; who has no name gets none
abbrev pub name_copied : ℕ → List ℕ → List ℕ
name_copied turn name = if length name == 0 then [] else name ++ codes "+" ++ decimal turn

-- what a provider has, with nothing used
abbrev pub entry_unused : List ℕ × UsedInventory → List ℕ × UsedInventory
entry_unused e = (e.0, record e.1 { used = 0 })

-- the copy of one of the providers of these UUIDs
abbrev pub copied : List ℕ → ℕ → ℕ → Provider → Provider
copied ids first turn p = record p {
  id = id_copied ids first p.id;
  name = name_copied turn p.name;
  parent = option_map (id_copied ids first) p.parent;
  entries = map entry_unused p.entries;
}

-- a copy of a tree, of which the first UUID and the number are these
abbrev pub tree_copied : List Provider → ℕ → ℕ → List Provider
tree_copied tree first turn = map (copied (ids_in tree) first turn) tree

-- so many copies of a tree behind all providers
abbrev pub with_copies : List Provider → ℕ → ℕ → List Provider → List Provider
with_copies tree first zero all = all
with_copies tree first (suc n) all = with_copies tree first n all ++ tree_copied tree (first + n * length tree) (suc n)

-- the UUID of the last provider, which is the greatest
abbrev pub last_id : List Provider → ℕ
last_id all = id_at all (length all - 1)

-- so many more would be more than there may be, or for some there is no UUID left
abbrev pub are_too_many : List Provider → ℕ → Bool
are_too_many all more = nat_lt 65536 (length all + more) || nat_le (2 ^ 128 - 1) (last_id all + more)

-- the providers with so many copies of a tree, with nothing used
abbrev pub added : List Provider → ℕ → ℕ → Result (List Provider) ChangeKind
added all n r =
    if are_too_many all (n * length (tree_of all r)) then Err kind.TooManyProviders
    else Ok (with_copies (tree_of all r) (last_id all + 1) n all)

-- a value, unless something speaks against it
abbrev pub unless : {X : Type 0} → Option ChangeKind → X → Result X ChangeKind
unless None value = Ok value
unless (Some why) value = Err why

-- the providers after a change
unfoldable pub changed : List Provider → Change → Result (List Provider) ChangeKind
changed all (edit scope e) = unless (edit_fault all scope e) (edited_in all scope e)
changed all (remove text) = and_then (λ r. Ok (without_tree all r)) (host_root all text)
changed all (add n text) = and_then (added all n) (host_root all text)

-- a fault, told with its line
abbrev pub told_at : {X : Type 0} → ℕ → Result X ChangeKind → Result X (ℕ × ChangeKind)
told_at line (Ok value) = Ok value
told_at line (Err why) = Err (line, why)

-- the providers after all changes, each of what those before it leave; or the first fault
abbrev pub all_changed : List Provider → List (ℕ × Change) → Result (List Provider) (ℕ × ChangeKind)
all_changed all [] = Ok all
all_changed all (c ∷ changes) = and_then (λ left. all_changed left changes) (told_at c.0 (changed all c.1))

-- ---- The world

-- a count as it is told: 4294967295 stands for all that are greater
abbrev pub counted : ℕ → ℕ
counted n = if nat_lt n 4294967296 then n else 4294967295

-- the sizes of tables that state these providers, with a row of usages for each inventory
unfoldable pub sizes_told : List Provider → Sizes
sizes_told all = record {
  providers = length all;
  inventories = counted (sum_by (λ p. length p.entries) all);
  usages = counted (sum_by (λ p. length p.entries) all);
  traits = counted (sum_by (λ p. length p.traits) all);
  aggregates = counted (sum_by (λ p. length p.aggregates) all);
}

-- the world of these providers
abbrev pub world_told : List Provider → World
world_told all = record { providers = all; sizes = sizes_told all }

-- the world after all changes, each with its line, or the first fault
abbrev pub world_changed : World → List (ℕ × Change) → Result World (ℕ × ChangeKind)
world_changed world changes = and_then (λ left. Ok (world_told left)) (all_changed world.providers changes)
