-- Where nobody has what is asked, or is where it is asked for, there is no candidate: at a root where one may stand, somebody does.
use Rattle.std.proofs.Common.{inl, inr, ◌≡◌, ◌∙◌, ℕ, ◌+◌, Bool, true, false, ◌&&◌, ◌||◌, List, [], ◌∷◌, length, map, Option, None, Some, refl, sym, ap, arith}
use Rattle.std.specs.List.{list_all, range_with_len}
use Rattle.std.specs.Option.{is_none, is_some, option_map_or}
use Rattle.std.proofs.Math.Bool.{and-false}
use Rattle.std.proofs.lemmas.Bool.{and_parts, and_from, cases_Bool, cases_lt, false≢true, or_cases}
use Rattle.std.proofs.lemmas.List.{get_or_past}
use Rattle.std.proofs.lemmas.List.Folds.{list_all-append, list_all-map}
use Rattle.std.proofs.lemmas.Grind.{common_steps}
use Rattle.ac_query.specs.Asked.{Asked, Group, Slot, class_slot, group_slots, slots_from, slots_of}
use Rattle.ac_query.specs.Pairs.Values.{AggregateRule}
use Rattle.ac_cloud.specs.World.{Provider, entry_in, has_trait, is_member, is_root, no_provider, provider_at}
use Rattle.ac_prune.specs.Ahead.{hosts_of}
use Rattle.ac_rules.specs.Own.{admits, aggregates_fit, counts_in, has_any, inventory_of, is_in_tree, meets_rule, traits_fit, tree_fits, units_fit}
use Rattle.ac_rules.specs.Placed.{Placed}
use Rattle.ac_rules.specs.Together.{takes_root}
use Rattle.ac_find.specs.Explained.{are_held, in_slot, is_served, meets_room, serves_unsuffixed}
use Rattle.ac_find.specs.Missing.{some_root_has, somebody_has_class, somebody_has_one, somebody_has_trait, somebody_is, somebody_is_in, somebody_is_member, someone}
use Rattle.ac_find.specs.Laws.{NoRootHas, NobodyHas, NobodyIsThere, somebody_has_each, somebody_is_there}
use Rattle.ac_rules.proofs.EachSlot.FrontLemmas.{all_weaker, any_weaker}
use Rattle.ac_rules.proofs.Elements.{each_all}
use Rattle.ac_prune.proofs.Roots.TreeLemmas.{any_there, range_there}
use Rattle.ac_find.proofs.NoneLemmas.{any_gives, either_more, none_at_roots}

-- what some provider passes and none past the end does, someone does
some_at : (all : List Provider) (test : Provider → Bool) (ix : ℕ) → test no_provider ≡ false → test (provider_at all ix) ≡ true → someone all test ≡ true
some_at all test ix past here = elim (cases_lt ix (length all)) [
  | inl low ↦ any_there (λ ix. test (provider_at all ix)) (range_with_len 0 (length all)) ix (range_there (length all) ix low) here
  | inr high ↦ absurd (false≢true (sym past ∙ (sym (ap test (get_or_past all ix no_provider high)) ∙ here)))
]

class_had : (all : List Provider) (p : ℕ) (class : List ℕ) (amount : ℕ) → admits (inventory_of (provider_at all p) class) amount ≡ true → somebody_has_class all class ≡ true
unfolding somebody_has_class
class_had all p class amount h = some_at all (λ q. is_some (entry_in q class)) p refl (grind (arith, common_steps))

trait_had : (all : List Provider) (p : ℕ) (name : List ℕ) → has_trait (provider_at all p) name ≡ true → somebody_has_trait all name ≡ true
unfolding somebody_has_trait
trait_had all p name h = some_at all (λ q. has_trait q name) p refl h

none_any : (names : List (List ℕ)) → has_any no_provider names ≡ false
none_any [] = refl
none_any (name ∷ names) = none_any names

one_had : (all : List Provider) (p : ℕ) (names : List (List ℕ)) → has_any (provider_at all p) names ≡ true → somebody_has_one all names ≡ true
unfolding somebody_has_one
one_had all p names h = some_at all (λ q. has_any q names) p (none_any names) h

-- ---- Of a group

abbrev classes : List Provider → List (List ℕ × ℕ) → Bool
classes all needs = list_all (λ need. somebody_has_class all need.0) needs

abbrev traits : List Provider → Group → Bool
traits all g = list_all (λ name. somebody_has_trait all name) g.required && list_all (λ names. somebody_has_one all names) g.any_of

-- of a slot, its own classes, and the traits of its group if this has a suffix
abbrev slot_had : List Provider → Slot → Bool
slot_had all slot = classes all slot.needs && (is_none slot.suffix || traits all slot.group)

met : (all : List Provider) (slot : Slot) (p : ℕ) → meets_room all (in_slot slot p) ≡ true → slot_had all slot ≡ true
unfolding units_fit traits_fit
met all slot p h =
    let rules = (and_parts _ _ (and_parts _ _ (and_parts _ _ h).0).0).0 in
    let both = and_parts _ _ rules in
    and_from _ _
    (all_weaker _ (λ (need : List ℕ × ℕ). somebody_has_class all need.0) (λ need fits. class_had all p need.0 need.1 fits) slot.needs both.0)
    (either_more (is_none slot.suffix) _ (traits all slot.group) (λ has.
    let parts = and_parts _ _ has in
    and_from _ _ (all_weaker _ (λ name. somebody_has_trait all name) (trait_had all p) slot.group.required parts.0)
    (all_weaker _ (λ names. somebody_has_one all names) (one_had all p) slot.group.any_of parts.1)) (and_parts _ _ both.1).1)

-- what each provider shows that meets all that a slot asks, is so where one does
served_by : (all : List Provider) (r : ℕ) (slot : Slot) (b : Bool) → ((p : ℕ) → meets_room all (in_slot slot p) ≡ true → b ≡ true) → is_served all r slot ≡ true → b ≡ true
served_by all r slot b shows h = any_gives (λ p. meets_room all (in_slot slot p)) (hosts_of all r) (b ≡ true) (each_all _ (hosts_of all r) shows) h

abbrev group_had : List Provider → Option (List ℕ) × Group → Bool
group_had all g = classes all g.1.needs && (is_none g.0 || traits all g.1)

-- each class of the group without a suffix has a slot, and each other group has one
one_group : (all : List Provider) (i : ℕ) (g : Option (List ℕ) × Group) → list_all (slot_had all) (group_slots i g) ≡ true → group_had all g ≡ true
one_group all i (None, g) h = and_from (classes all g.needs) true (all_weaker _ (λ (need : List ℕ × ℕ). somebody_has_class all need.0) (λ need had. (and_parts _ _ (and_parts _ _ had).0).0) g.needs (sym (list_all-map (slot_had all) (class_slot i g) g.needs) ∙ h)) refl
one_group all i (Some s, g) h = (and_parts (group_had all (Some s, g)) true h).0

groups_had : (all : List Provider) (i : ℕ) (gs : List (Option (List ℕ) × Group)) → list_all (slot_had all) (slots_from i gs) ≡ true → list_all (group_had all) gs ≡ true
groups_had all i [] h = refl
groups_had all i (g ∷ gs) h =
    let both = and_parts _ _ (sym (list_all-append (slot_had all) (group_slots i g) (slots_from (i + 1) gs)) ∙ h) in
    and_from (group_had all g) (list_all (group_had all) gs) (one_group all i g both.0) (groups_had all (i + 1) gs both.1)

-- what is held at a root, somebody has
held_had : (all : List Provider) (asked : Asked) (r : ℕ) (g : Group) → are_held all asked r g ≡ true → traits all g ≡ true
held_had all asked r g h =
    let parts = and_parts _ _ h in
    let hosts = hosts_of all r in
    and_from _ _
    (all_weaker _ (λ name. somebody_has_trait all name) (λ name. any_gives (λ p. serves_unsuffixed all asked p && has_trait (provider_at all p) name) hosts (somebody_has_trait all name ≡ true)
    (each_all _ hosts (λ p both. trait_had all p name (and_parts _ _ both).1))) g.required parts.0)
    (all_weaker _ (λ names. somebody_has_one all names) (λ names. any_gives (λ p. serves_unsuffixed all asked p && has_any (provider_at all p) names) hosts (somebody_has_one all names ≡ true)
    (each_all _ hosts (λ p both. one_had all p names (and_parts _ _ both).1))) g.any_of parts.1)

-- a group with a suffix has its traits by its slot, the other by what is held
each_had : (all : List Provider) (asked : Asked) (r : ℕ) (gs : List (Option (List ℕ) × Group)) → list_all (group_had all) gs ≡ true → list_all (λ g. is_some g.0 || are_held all asked r g.1) gs ≡ true
    → list_all (λ g. somebody_has_each all g.1) gs ≡ true
each_had all asked r [] h held = refl
each_had all asked r ((None, g) ∷ gs) h held =
    let had = and_parts (group_had all (None, g)) (list_all (group_had all) gs) h in
    let here = and_parts (are_held all asked r g) (list_all (λ (g : Option (List ℕ) × Group). is_some g.0 || are_held all asked r g.1) gs) held in
    and_from (somebody_has_each all g) _ (and_from (classes all g.needs) (traits all g) (and_parts (classes all g.needs) true had.0).0 (held_had all asked r g here.0)) (each_had all asked r gs had.1 here.1)
each_had all asked r ((Some s, g) ∷ gs) h held =
    let had = and_parts (group_had all (Some s, g)) (list_all (group_had all) gs) h in
    and_from (somebody_has_each all g) _ had.0 (each_had all asked r gs had.1 held)

-- ---- Of a slot's aggregates and its tree

member_there : (all : List Provider) (ix a : ℕ) → is_member (provider_at all ix) a ≡ true → somebody_is_member all a ≡ true
unfolding somebody_is_member
member_there all ix a h = some_at all (λ q. is_member q a) ix refl h

counted_there : (all : List Provider) (x : Placed) (a : ℕ) → counts_in all x a ≡ true → somebody_is_member all a ≡ true
counted_there all x a h = elim (or_cases _ _ h) [
  | inl own ↦ member_there all x.provider a own
  | inr root ↦ member_there all _ a (and_parts _ _ root).1
]

rule_there : (all : List Provider) (x : Placed) (rule : AggregateRule) → meets_rule all x rule ≡ true → (rule.forbids || somebody_is_in all rule.ids) ≡ true
unfolding meets_rule somebody_is_in
rule_there all x rule h = elim (cases_Bool rule.forbids) [
  | inl forbids ↦ rw forbids refl
  | inr asks ↦ rw asks (any_weaker (counts_in all x) (somebody_is_member all) (counted_there all x) rule.ids (rw asks at h))
]

tree_there : (all : List Provider) (p : Provider) (tree : Option ℕ) → is_in_tree all p tree ≡ true → option_map_or (λ id. somebody_is all id) tree true ≡ true
unfolding somebody_is
tree_there all p None h = refl
tree_there all p (Some id) h = (and_parts _ _ h).0

places_met : (all : List Provider) (slot : Slot) (p : ℕ) → meets_room all (in_slot slot p) ≡ true → somebody_is_there all slot.group ≡ true
unfolding aggregates_fit tree_fits
places_met all slot p h =
    let tree = and_parts _ _ (and_parts _ _ h).0 in
    and_from _ _
    (all_weaker (meets_rule all (in_slot slot p)) _ (rule_there all (in_slot slot p)) slot.group.member_of (and_parts _ _ tree.0).1)
    (tree_there all (provider_at all p) slot.group.in_tree tree.1)

-- ---- The laws

pub nobody_is_there : NobodyIsThere
nobody_is_there all asked none = none_at_roots all asked (list_all (λ slot. somebody_is_there all slot.group) (slots_of asked) ≡ true)
    (λ r low each held. all_weaker (is_served all r) (λ slot. somebody_is_there all slot.group) (λ slot. served_by all r slot _ (places_met all slot)) (slots_of asked) (and_parts _ _ each).1)
    (λ some. false≢true (sym none ∙ some))

pub nobody_has : NobodyHas
nobody_has all asked none = none_at_roots all asked (list_all (λ g. somebody_has_each all g.1) asked.groups ≡ true)
    (λ r low each held. each_had all asked r asked.groups (groups_had all 0 asked.groups (all_weaker (is_served all r) (slot_had all) (λ slot. served_by all r slot _ (met all slot)) (slots_of asked) (and_parts _ _ each).1)) held)
    (λ some. false≢true (sym none ∙ some))

root_had : (all : List Provider) (asked : Asked) (r : ℕ) → takes_root all asked r ≡ true → list_all (λ name. some_root_has all name) asked.root_required ≡ true
unfolding takes_root some_root_has
root_had all asked r h =
    let root = (and_parts _ _ (and_parts _ _ h).0) in
    all_weaker _ _ (λ name has. some_at all (λ q. is_root all q.id && has_trait q name) r (and-false _) (and_from _ _ root.0 has)) asked.root_required root.1

pub no_root_has : NoRootHas
no_root_has all asked none = none_at_roots all asked (list_all (λ name. some_root_has all name) asked.root_required ≡ true) (λ r low each held. root_had all asked r (and_parts _ _ each).0)
    (λ some. false≢true (sym none ∙ some))
