-- Of what a list of providers breaks a rule: the first thing that does, in the order of slots, classes, traits, lists or roots, and its words.
-- Nothing where there is none.
use Rattle.std.specs.Prelude.{ℕ, ◌+◌, ◌-◌, ◌&&◌, ◌||◌, Bool, true, not, List, [], ◌++◌, codes, find, length, slice_index, Option, None, Some}
use Rattle.std.specs.Fmt.{decimal}
use Rattle.std.specs.List.{join_with_byte, list_any, range_with_len}
use Rattle.std.specs.Option.{is_some, option_map_or}
use Rattle.ac_base.specs.Quantities.{InventoryNumbers, capacity}
use Rattle.ac_base.specs.Texts.{id_text}
use Rattle.ac_cloud.specs.World.{Provider, id_at, is_root, provider_at, used_of}
use Rattle.ac_query.specs.Asked.{Asked, Group}
use Rattle.ac_rules.specs.Own.{aggregates_fit, inventory_of, traits_fit, tree_fits, units_fit}
use Rattle.ac_rules.specs.Placed.{Placed, assigned, placed_at}
use Rattle.ac_rules.specs.Together.{are_apart, are_brought, holds, holds_sums, hosts_all, is_brought, is_one_brought, is_top, listed, sum_on}
use Rattle.ac_rules.specs.declared.verdict.Rule.{Rule}
use Rattle.ac_rules.specs.declared.verdict.Rule.TheVariants as rule
use Rattle.ac_find.specs.Details.{aggregates_detail, missing_text, none_of_text, none_text, root_detail, traits_detail, tree_detail, units_detail}

-- the slot at a place, with its provider of a list
abbrev pub in_list : Asked → List ℕ → ℕ → Placed
in_list asked list s = placed_at asked s (slice_index list s)

-- ---- The rules of each slot

-- whether a slot's provider keeps a rule; the other rules are of all slots together
unfoldable pub keeps : List Provider → List Placed → Rule → Placed → Bool
keeps all xs rule.Units x = units_fit all x
keeps all xs rule.SlotTraits x = traits_fit all x
keeps all xs rule.Aggregates x = aggregates_fit all x
keeps all xs rule.Tree x = tree_fits all x
keeps all xs rule.Sums x = holds_sums all xs x
keeps all xs _ x = true

-- the first slot whose provider doesn't
abbrev pub first_misfit : List Provider → Asked → List ℕ → Rule → Option ℕ
first_misfit all asked list r = find (λ s. not (keeps all (assigned asked list) r (in_list asked list s))) (range_with_len 0 (length list))

-- of what it fails the test of its slot
unfoldable pub misfit_detail : List Provider → Placed → Rule → List ℕ
misfit_detail all x rule.Units = units_detail (provider_at all x.provider) x.slot.needs
misfit_detail all x rule.SlotTraits = traits_detail (provider_at all x.provider) x.slot.suffix x.slot.group
misfit_detail all x rule.Aggregates = aggregates_detail all x x.slot.group.member_of
misfit_detail all x rule.Tree = tree_detail x.slot.group.in_tree
misfit_detail all x _ = []

-- slots are numbered from 1
unfoldable pub misfit_text : List Provider → ℕ → Placed → Rule → List ℕ
misfit_text all s x r =
    codes "slot " ++ (decimal (s + 1) ++ (codes " on " ++ (id_text (id_at all x.provider) ++ (codes ", " ++ misfit_detail all x r))))

abbrev pub slot_detail : List Provider → Asked → List ℕ → Rule → List ℕ
slot_detail all asked list r = option_map_or (λ s. misfit_text all s (in_list asked list s) r) (first_misfit all asked list r) []

-- ---- Collective

-- the first group without a suffix of which something isn't brought
abbrev pub first_unserved_group : List Provider → Asked → List Placed → Option (Option (List ℕ) × Group)
first_unserved_group all asked xs = find (λ g. not (is_some g.0 || are_brought all xs g.1)) asked.groups

-- of a group the first required trait that isn't brought, and the first list of which none is
abbrev pub first_unbrought : List Provider → List Placed → List (List ℕ) → Option (List ℕ)
first_unbrought all xs names = find (λ name. not (is_brought all xs name)) names

abbrev pub first_unbrought_list : List Provider → List Placed → List (List (List ℕ)) → Option (List (List ℕ))
first_unbrought_list all xs lists = find (λ names. not (is_one_brought all xs names)) lists

abbrev pub unbrought_list_detail : List Provider → List Placed → Group → List ℕ
unbrought_list_detail all xs g = option_map_or none_of_text (first_unbrought_list all xs g.any_of) []

abbrev pub unbrought_detail : List Provider → List Placed → Group → List ℕ
unbrought_detail all xs g = option_map_or missing_text (first_unbrought all xs g.required) (unbrought_list_detail all xs g)

abbrev pub collective_detail : List Provider → Asked → List Placed → List ℕ
collective_detail all asked xs = option_map_or (λ g. unbrought_detail all xs g.1) (first_unserved_group all asked xs) []

-- ---- Sums

-- of a slot the first class for which its provider has no room for the sum of all slots on it
abbrev pub first_crowded : List Provider → List Placed → Placed → Option (List ℕ × ℕ)
first_crowded all xs x = find (λ need. not (holds (provider_at all x.provider) need.0 (sum_on xs x.provider need.0))) x.slot.needs

-- what is left of a capacity, with `max_unit`
unfoldable pub left_text : ℕ → ℕ → ℕ → List ℕ
left_text left whole most = decimal left ++ (codes " of " ++ (decimal whole ++ (codes " left, max_unit " ++ decimal most)))

-- a class of a provider by its UUID, with what is left of it, and the sum that is asked
unfoldable pub sum_text : List ℕ → List ℕ → List ℕ → ℕ → List ℕ
sum_text class id left sum = class ++ (codes " on " ++ (id ++ (codes ", " ++ (left ++ (codes ", " ++ (decimal sum ++ codes " asked"))))))

abbrev pub inventory_text : List ℕ → ℕ → Option InventoryNumbers → ℕ → ℕ → List ℕ
inventory_text class id None used sum = none_text class
inventory_text class id (Some i) used sum = sum_text class (id_text id) (left_text (capacity i - used) (capacity i) i.max_unit) sum

abbrev pub class_text : List Provider → List Placed → ℕ → List ℕ → List ℕ
class_text all xs ix class =
    inventory_text class (id_at all ix) (inventory_of (provider_at all ix) class) (used_of (provider_at all ix) class) (sum_on xs ix class)

abbrev pub crowded_detail : List Provider → List Placed → Placed → List ℕ
crowded_detail all xs x = option_map_or (λ need. class_text all xs x.provider need.0) (first_crowded all xs x) []

abbrev pub sums_detail : List Provider → Asked → List ℕ → List ℕ
sums_detail all asked list =
    option_map_or (λ s. crowded_detail all (assigned asked list) (in_list asked list s)) (first_misfit all asked list rule.Sums) []

-- ---- Isolate

-- the first slot behind one that stands apart with it on one provider
abbrev pub first_rival : Asked → List ℕ → ℕ → Option ℕ
first_rival asked list s = find (λ t. not (are_apart (in_list asked list s) (in_list asked list t))) (range_with_len (s + 1) (length list - (s + 1)))

-- the first slot behind which there is one
abbrev pub first_disputed : Asked → List ℕ → Option ℕ
first_disputed asked list = find (λ s. is_some (first_rival asked list s)) (range_with_len 0 (length list))

unfoldable pub pair_text : List Provider → List ℕ → ℕ → ℕ → List ℕ
pair_text all list s t =
    codes "slots " ++ (decimal (s + 1) ++ (codes " and " ++ (decimal (t + 1) ++ (codes " on " ++ id_text (id_at all (slice_index list s))))))

abbrev pub rival_detail : List Provider → Asked → List ℕ → ℕ → List ℕ
rival_detail all asked list s = option_map_or (λ t. pair_text all list s t) (first_rival asked list s) []

abbrev pub isolate_detail : List Provider → Asked → List ℕ → List ℕ
isolate_detail all asked list = option_map_or (λ s. rival_detail all asked list s) (first_disputed asked list) []

-- ---- Subtree

-- the first list of `same_subtree` none of whose providers is above all of them
abbrev pub first_topless : List Provider → Asked → List Placed → Option (List (List ℕ))
first_topless all asked xs = find (λ names. not (list_any (λ a. is_top all (listed names xs) a) (listed names xs))) asked.subtrees

-- a list as the query writes it
unfoldable pub subtree_text : List (List ℕ) → List ℕ
subtree_text names = codes "same_subtree=" ++ join_with_byte 44 names

abbrev pub subtree_detail : List Provider → Asked → List Placed → List ℕ
subtree_detail all asked xs = option_map_or subtree_text (first_topless all asked xs) []

-- ---- Anchor

-- the first root in whose tree every provider is available, whether or not the query takes it
abbrev pub first_host : List Provider → List Placed → Option ℕ
first_host all xs = find (λ root. is_root all (id_at all root) && hosts_all all xs root) (range_with_len 0 (length all))

unfoldable pub host_text : List Provider → Asked → ℕ → List ℕ
host_text all asked root = codes "on " ++ (id_text (id_at all root) ++ (codes ", " ++ root_detail (provider_at all root) asked))

abbrev pub anchor_detail : List Provider → Asked → List Placed → List ℕ
anchor_detail all asked xs = option_map_or (λ root. host_text all asked root) (first_host all xs) (codes "no root gives all of them")

-- ---- Of what a list breaks a rule

unfoldable pub broken_detail : List Provider → Asked → List ℕ → Rule → List ℕ
broken_detail all asked list rule.Units = slot_detail all asked list rule.Units
broken_detail all asked list rule.SlotTraits = slot_detail all asked list rule.SlotTraits
broken_detail all asked list rule.Aggregates = slot_detail all asked list rule.Aggregates
broken_detail all asked list rule.Tree = slot_detail all asked list rule.Tree
broken_detail all asked list rule.Collective = collective_detail all asked (assigned asked list)
broken_detail all asked list rule.Sums = sums_detail all asked list
broken_detail all asked list rule.Isolate = isolate_detail all asked list
broken_detail all asked list rule.Subtree = subtree_detail all asked (assigned asked list)
broken_detail all asked list rule.Anchor = anchor_detail all asked (assigned asked list)
