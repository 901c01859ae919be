-- What the laws say of the counts of an explanation, and of the roots that fit.
use Rattle.std.specs.Prelude.{◌≡◌, ◌≢◌, ◌<◌, ◌≤◌, ◌&&◌, ◌||◌, ℕ, Bool, true, false, not, List, [], length, Some}
use Rattle.std.specs.List.{AllByRecursion, list_all, list_any, range_with_len}
use Rattle.std.specs.Option.{is_none, option_map_or}
use Rattle.ac_base.specs.Quantities.{InventoryNumbers}
use Rattle.ac_query.specs.Asked.{Asked, Group, Slot, slots_of}
use Rattle.ac_cloud.specs.World.{Provider, provider_at}
use Rattle.ac_rules.specs.Judge.{judge}
use Rattle.ac_rules.specs.Own.{admits}
use Rattle.ac_rules.specs.Pages.{candidates}
use Rattle.ac_rules.specs.Placed.{assigned, slot_at}
use Rattle.ac_rules.specs.Together.{has_room, is_empty}
use Rattle.ac_rules.specs.declared.verdict.Rule.{Rule}
use Rattle.ac_rules.specs.declared.verdict.Rule.TheVariants.{Anchor, Sums}
use Rattle.ac_rules.specs.declared.verdict.Verdict.TheVariants.{Broken}
use Rattle.ac_find.specs.Audit.{admits_some}
use Rattle.ac_find.specs.Broken.{broken_detail, first_host, first_misfit, in_list, misfit_detail}
use Rattle.ac_find.specs.Details.{root_detail}
use Rattle.ac_find.specs.Explained.{SlotCounts, TreeCounts, class_rooms, slot_counts, tree_counts}
use Rattle.ac_prune.specs.Fitting.{fits_at}
use Rattle.ac_find.specs.Lacking.{lack_at}
use Rattle.ac_find.specs.Missing.{some_root_has, somebody_has_class, somebody_has_one, somebody_has_trait, somebody_is, somebody_is_in}

-- no number of a slot is greater than the one before it
pub record Falls (counts : SlotCounts) (providers : ℕ) : Type 0 where
  pub units : counts.units ≤ providers
  pub traits : counts.traits ≤ counts.units
  pub aggregates : counts.aggregates ≤ counts.traits
  pub tree : counts.tree ≤ counts.aggregates
  pub room : counts.room ≤ counts.tree

-- what has room for all classes has room for each, and meets all that stands before room
abbrev pub AreBetween : SlotCounts → List ℕ → Type 0
AreBetween counts rooms = AllByRecursion (λ n. (counts.room ≤ n) × (n ≤ counts.tree)) rooms

-- the numbers of a slot's line fall, and those of its classes stand between the last two
abbrev pub CountsFall : Type 0
CountsFall = (all : List Provider) (slot : Slot) → Falls (slot_counts all slot) (length all) × AreBetween (slot_counts all slot) (class_rooms all slot)

-- no number of the trees is greater than the one before it
pub record FallsAtRoots (counts : TreeCounts) (providers : ℕ) : Type 0 where
  pub roots : counts.roots ≤ providers
  pub root_traits : counts.root_traits ≤ counts.roots
  pub each_slot : counts.each_slot ≤ counts.root_traits
  pub required_traits : counts.required_traits ≤ counts.each_slot

abbrev pub RootsFall : Type 0
RootsFall = (all : List Provider) (asked : Asked) → FallsAtRoots (tree_counts all asked) (length all)

-- where no provider has what a slot asks, room included, there is no candidate; no number of its line is less than this one
abbrev pub SlotZero : Type 0
SlotZero = (all : List Provider) (asked : Asked) (s : ℕ) → s < length (slots_of asked) → (slot_counts all (slot_at asked s)).room ≡ 0 → candidates all asked ≡ []

-- where the query takes no root, there is none either
abbrev pub RootTraitsZero : Type 0
RootTraitsZero = (all : List Provider) (asked : Asked) → (tree_counts all asked).root_traits ≡ 0 → candidates all asked ≡ []

-- where no root has a provider for each slot, there is no candidate
abbrev pub NoneWithoutRoots : Type 0
NoneWithoutRoots = (all : List Provider) (asked : Asked) → (tree_counts all asked).each_slot ≡ 0 → candidates all asked ≡ []

-- where no root that has one also holds what the group without a suffix requires, there is none either; no count is less than this one
abbrev pub NoneWithoutTraits : Type 0
NoneWithoutTraits = (all : List Provider) (asked : Asked) → (tree_counts all asked).required_traits ≡ 0 → candidates all asked ≡ []

-- of all that a group asks providers to have, somebody has it: each class, each trait that it requires, and of each list one
abbrev pub somebody_has_each : List Provider → Group → Bool
somebody_has_each all g =
    list_all (λ need. somebody_has_class all need.0) g.needs
    && (list_all (λ name. somebody_has_trait all name) g.required && list_all (λ names. somebody_has_one all names) g.any_of)

-- where nobody has something that a group asks, there is no candidate
abbrev pub NobodyHas : Type 0
NobodyHas = (all : List Provider) (asked : Asked) → list_all (λ g. somebody_has_each all g.1) asked.groups ≡ false → candidates all asked ≡ []

-- of each rule of a group that asks for aggregates somebody is in one of them, and the provider is there whose tree is asked for
abbrev pub somebody_is_there : List Provider → Group → Bool
somebody_is_there all g =
    list_all (λ rule. rule.forbids || somebody_is_in all rule.ids) g.member_of && option_map_or (λ id. somebody_is all id) g.in_tree true

-- nor where that isn't so of a slot; a group without a slot asks it of nobody
abbrev pub NobodyIsThere : Type 0
NobodyIsThere = (all : List Provider) (asked : Asked) → list_all (λ slot. somebody_is_there all slot.group) (slots_of asked) ≡ false → candidates all asked ≡ []

-- nor where no root has a trait that is asked of it
abbrev pub NoRootHas : Type 0
NoRootHas = (all : List Provider) (asked : Asked) → list_all (λ name. some_root_has all name) asked.root_required ≡ false → candidates all asked ≡ []

-- some root fits exactly where there is a candidate
abbrev pub SomeFits : Type 0
SomeFits = (all : List Provider) (asked : Asked) → list_any (fits_at all asked) (range_with_len 0 (length all)) ≡ not (is_empty (candidates all asked))

-- a root fits exactly where it lacks nothing
abbrev pub LackNothing : Type 0
LackNothing = (all : List Provider) (asked : Asked) (r : ℕ) → is_none (lack_at all asked r) ≡ fits_at all asked r

-- an inventory that admits an amount and has room for it isn't told as one that never fits
abbrev pub PlacedFits : Type 0
PlacedFits = (i : InventoryNumbers) (used amount : ℕ) → 1 ≤ amount → admits (Some i) amount ≡ true → has_room (Some i) used amount ≡ true → admits_some i ≡ true

-- of the first rule that is broken something is told
abbrev pub BrokenIsTold : Type 0
BrokenIsTold = (all : List Provider) (asked : Asked) (list : List ℕ) (rule : Rule) → judge all asked list ≡ Broken rule → broken_detail all asked list rule ≢ []

-- behind a slot and its provider, of what this one breaks a rule of its slot; Sums, of all slots together, is told by its class alone
abbrev pub MisfitIsTold : Type 0
MisfitIsTold = (all : List Provider) (asked : Asked) (list : List ℕ) (rule : Rule) (s : ℕ) → rule ≢ Sums → first_misfit all asked list rule ≡ Some s
    → misfit_detail all (in_list asked list s) rule ≢ []

-- behind a root at which all providers are available, what this one lacks that the query asks of a root
abbrev pub RootIsTold : Type 0
RootIsTold = (all : List Provider) (asked : Asked) (list : List ℕ) (root : ℕ) → judge all asked list ≡ Broken Anchor → first_host all (assigned asked list) ≡ Some root
    → root_detail (provider_at all root) asked ≢ []
