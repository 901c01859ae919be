-- What is amiss in a cloud, whatever is asked of it.
use Rattle.std.specs.Prelude.{ℕ, ◌==◌, ◌&&◌, ◌-◌, Bool, not, nat_lt, List, [], ◌∷◌, ◌++◌, codes, length, Option, None, Some, if◌then◌else◌}
use Rattle.std.specs.Fmt.{decimal}
use Rattle.std.specs.List.{cons_option, filter, filter_map, flat_map, list_any, range_with_len}
use Rattle.std.specs.Str.{bytes_eq}
use Rattle.ac_base.specs.Quantities.{InventoryNumbers, capacity, units}
use Rattle.ac_base.specs.Texts.{id_text}
use Rattle.ac_cloud.specs.World.{Provider, Sizes, UsedInventory, World, anchors_of, has_trait, id_at, is_member, is_root, provider_at, root_of, shares}
use Rattle.ac_find.specs.Explained.{has_inventory}
use Rattle.ac_find.specs.Missing.{somebody_there_has_class}
use Rattle.ac_find.specs.declared.audit.Kind.{Kind}
use Rattle.ac_find.specs.declared.audit.Kind.TheVariants as kind

-- something that is amiss: of a provider, or of the tables as a whole; and what it is, in words
pub record Finding : Type 0 where
  pub kind : Kind
  pub provider : Option Provider
  pub detail : List ℕ

-- in the order in which they are told
abbrev pub kinds : List Kind
kinds =
    kind.OverCapacity ∷ kind.NeverFits ∷ kind.SharesWithNobody ∷ kind.SharesNothing ∷ kind.NoInventory ∷ kind.NoStorage ∷ kind.OutsideZone ∷ kind.NameTwice
    ∷ kind.NoUsage ∷ kind.Disabled ∷ []

-- the words of a finding, if there is one
abbrev pub told_if : Bool → List ℕ → Option (List ℕ)
told_if amiss words = if amiss then Some words else None

-- ---- Inventories

unfoldable pub over_text : List ℕ → ℕ → ℕ → List ℕ
over_text class used whole = class ++ (codes ": " ++ (decimal used ++ (codes " used of " ++ decimal whole)))

-- more of an inventory is used than its capacity
abbrev pub over_capacity : List ℕ → UsedInventory → Option (List ℕ)
over_capacity class h = told_if (nat_lt (capacity h.inventory) h.used) (over_text class h.used (capacity h.inventory))

-- some amount can be placed where nothing is used
unfoldable pub admits_some : InventoryNumbers → Bool
admits_some i = list_any (units i) (range_with_len 1 (capacity i))

unfoldable pub units_text : List ℕ → InventoryNumbers → List ℕ
units_text class i =
    class ++ (codes ": min_unit " ++ (decimal i.min_unit ++ (codes ", max_unit " ++ (decimal i.max_unit ++ (codes ", step_size "
    ++ (decimal i.step_size ++ (codes ", capacity " ++ decimal (capacity i))))))))

-- none can
abbrev pub never_fits : List ℕ → UsedInventory → Option (List ℕ)
never_fits class h = told_if (not (admits_some h.inventory)) (units_text class h.inventory)

-- what is amiss of a kind with an inventory of a class
abbrev pub entry_detail : Kind → List ℕ × UsedInventory → Option (List ℕ)
entry_detail kind.OverCapacity e = over_capacity e.0 e.1
entry_detail kind.NeverFits e = never_fits e.0 e.1
entry_detail other e = None

-- ---- Sharing providers

-- it has no inventory
abbrev pub is_bare : Provider → Bool
is_bare p = length p.entries == 0

abbrev pub nobody_words : Provider → List ℕ
nobody_words p = if length p.aggregates == 0 then codes "in no aggregate" else codes "in no aggregate of another tree"

-- a sharing provider is available in no tree but its own
abbrev pub shares_with_nobody : List Provider → ℕ → Option (List ℕ)
shares_with_nobody all ix = told_if (shares (provider_at all ix) && (length (anchors_of all ix) == 1)) (nobody_words (provider_at all ix))

abbrev pub shares_nothing : List Provider → ℕ → Option (List ℕ)
shares_nothing all ix = told_if (shares (provider_at all ix) && is_bare (provider_at all ix)) (codes "no inventory")

-- the roots where a provider is available that are members of an aggregate themselves
abbrev pub hosts_in : List Provider → ℕ → List ℕ → List ℕ
hosts_in all zone roots = filter (λ r. is_member (provider_at all r) zone) roots

unfoldable pub outside_text : ℕ → ℕ → List ℕ
outside_text zone hosts = codes "not in " ++ (id_text zone ++ (codes ", where " ++ (decimal hosts ++ codes " of its hosts are")))

-- a sharing provider isn't in an aggregate where hosts of its are
abbrev pub outside_zone : List Provider → Option ℕ → ℕ → Option (List ℕ)
outside_zone all None ix = None
outside_zone all (Some zone) ix =
    let hosts = length (hosts_in all zone (anchors_of all ix)) in
    told_if (shares (provider_at all ix) && not (is_member (provider_at all ix) zone) && nat_lt 0 hosts) (outside_text zone hosts)

-- ---- Trees

-- a provider is of the tree of a root, and passes a test
abbrev pub is_in_tree : List Provider → (Provider → Bool) → ℕ → ℕ → Bool
is_in_tree all test r ix = (root_of all (id_at all ix) == id_at all r) && test (provider_at all ix)

-- some provider of its tree does
abbrev pub somebody_in_tree : List Provider → (Provider → Bool) → ℕ → Bool
somebody_in_tree all test r = list_any (is_in_tree all test r) (range_with_len 0 (length all))

abbrev pub is_root_at : List Provider → ℕ → Bool
is_root_at all ix = is_root all (id_at all ix)

-- no provider of a tree has an inventory
abbrev pub no_inventory : List Provider → ℕ → Option (List ℕ)
no_inventory all ix = told_if (is_root_at all ix && not (somebody_in_tree all (λ p. not (is_bare p)) ix)) (codes "no provider of its tree has one")

abbrev pub has_processors : Provider → Bool
has_processors p = has_inventory p (codes "VCPU")

-- a tree has processors, and no storage is available there
abbrev pub no_storage : List Provider → ℕ → Option (List ℕ)
no_storage all ix =
    told_if (is_root_at all ix && somebody_in_tree all has_processors ix && not (somebody_there_has_class all ix (codes "DISK_GB")))
    (codes "VCPU in its tree, and no DISK_GB there, its own or shared")

-- ---- Names and traits

-- how many providers have a name; an empty text is none
abbrev pub count_named : List Provider → List ℕ → ℕ
count_named all name = length (filter (λ p. bytes_eq p.name name) all)

unfoldable pub named_text : ℕ → List ℕ
named_text count = decimal count ++ codes " providers have it"

abbrev pub name_twice : List Provider → ℕ → Option (List ℕ)
name_twice all ix =
    let name = (provider_at all ix).name in
    told_if (not (length name == 0) && nat_lt 1 (count_named all name)) (named_text (count_named all name))

abbrev pub is_disabled : List Provider → ℕ → Option (List ℕ)
is_disabled all ix = told_if (has_trait (provider_at all ix) (codes "COMPUTE_STATUS_DISABLED")) (codes "trait COMPUTE_STATUS_DISABLED")

-- ---- All of them

-- what is amiss of a kind with a provider itself
abbrev pub own_detail : List Provider → Option ℕ → Kind → ℕ → Option (List ℕ)
own_detail all _ kind.SharesWithNobody ix = shares_with_nobody all ix
own_detail all _ kind.SharesNothing ix = shares_nothing all ix
own_detail all _ kind.NoInventory ix = no_inventory all ix
own_detail all _ kind.NoStorage ix = no_storage all ix
own_detail all zone kind.OutsideZone ix = outside_zone all zone ix
own_detail all _ kind.NameTwice ix = name_twice all ix
own_detail all _ kind.Disabled ix = is_disabled all ix
own_detail all _ other ix = None

unfoldable pub untold_text : ℕ → ℕ → List ℕ
untold_text count whole = decimal count ++ (codes " of " ++ (decimal whole ++ codes " inventories have no row"))

-- fewer usages are told than there are inventories
abbrev pub no_usage : Sizes → Option (List ℕ)
no_usage sizes = told_if (nat_lt sizes.usages sizes.inventories) (untold_text (sizes.inventories - sizes.usages) sizes.inventories)

-- what is amiss of a kind with the tables as a whole
abbrev pub whole_detail : Sizes → Kind → Option (List ℕ)
whole_detail sizes kind.NoUsage = no_usage sizes
whole_detail sizes other = None

abbrev pub finding_of : Kind → Option Provider → List ℕ → Finding
finding_of kind provider detail = record { kind = kind; provider = provider; detail = detail }

abbrev pub found_if : Kind → Option Provider → Option (List ℕ) → Option Finding
found_if kind provider None = None
found_if kind provider (Some detail) = Some (finding_of kind provider detail)

-- what is amiss of a kind with a provider
abbrev pub entries_found : Kind → Provider → List Finding
entries_found kind p = filter_map (λ e. found_if kind (Some p) (entry_detail kind e)) p.entries

abbrev pub provider_found : List Provider → Option ℕ → Kind → ℕ → List Finding
provider_found all zone kind ix =
    entries_found kind (provider_at all ix) ++ cons_option (found_if kind (Some (provider_at all ix)) (own_detail all zone kind ix)) []

-- what is amiss of a kind: with the tables as a whole, and with each provider in the order of UUIDs
abbrev pub kind_found : World → Option ℕ → Kind → List Finding
kind_found w zone kind =
    cons_option (found_if kind None (whole_detail w.sizes kind)) [] ++ flat_map (provider_found w.providers zone kind) (range_with_len 0 (length w.providers))

-- all that is amiss in a cloud, with one of its aggregates as the zone, or with none
unfoldable pub findings : World → Option ℕ → List Finding
findings w zone = flat_map (kind_found w zone) kinds
