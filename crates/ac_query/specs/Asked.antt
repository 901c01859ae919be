-- What a query asks for: the record that a query stands for, its slots and its lists of `same_subtree`.
use Rattle.std.specs.Prelude.{ℕ, ◌+◌, Bool, false, List, [], ◌∷◌, ◌++◌, map, Option, Some, None, unwrap_or}
use Rattle.std.specs.List.{slice_get}
use Rattle.ac_query.specs.Texts.{has_text}
use Rattle.ac_query.specs.Pairs.Values.{AggregateRule}

-- What is asked of a group: amounts by class, classes in byte order; traits in byte order, each once; lists of traits of which one
-- each is asked, and aggregate rules, both in the order of their pairs; perhaps a tree.
pub record Group : Type 0 where
  pub needs : List (List ℕ × ℕ)
  pub required : List (List ℕ)
  pub forbidden : List (List ℕ)
  pub any_of : List (List (List ℕ))
  pub member_of : List AggregateRule
  pub in_tree : Option ℕ

-- What a query asks for. Groups go by their suffix: the unsuffixed one first, then suffixes in byte order.
pub record Asked : Type 0 where
  pub groups : List (Option (List ℕ) × Group)
  pub policy : Option Bool
  pub subtrees : List (List (List ℕ))
  pub root_required : List (List ℕ)
  pub root_forbidden : List (List ℕ)
  pub limit : Option ℕ

-- whether the policy is `isolate`
abbrev pub is_isolated : Asked → Bool
is_isolated a = unwrap_or a.policy false

-- A slot: the place of its group among the groups, the group's suffix and what is asked of it, and the slot's own needs.
pub record Slot : Type 0 where
  pub place : ℕ
  pub suffix : Option (List ℕ)
  pub group : Group
  pub needs : List (List ℕ × ℕ)

-- the slot of one class of the unsuffixed group
abbrev pub class_slot : ℕ → Group → List ℕ × ℕ → Slot
class_slot i g need = record { place = i; suffix = None; group = g; needs = need ∷ [] }

-- the slot of a suffixed group, with all its classes
abbrev pub suffix_slot : ℕ → List ℕ → Group → Slot
suffix_slot i s g = record { place = i; suffix = Some s; group = g; needs = g.needs }

-- the slots of a group at a place: one for each class of the unsuffixed group, one for a suffix
abbrev pub group_slots : ℕ → Option (List ℕ) × Group → List Slot
group_slots i (None, g) = map (class_slot i g) g.needs
group_slots i (Some s, g) = suffix_slot i s g ∷ []

-- the slots of groups, the first of which stands at a place
abbrev pub slots_from : ℕ → List (Option (List ℕ) × Group) → List Slot
slots_from i [] = []
slots_from i (g ∷ gs) = group_slots i g ++ slots_from (i + 1) gs

-- the slots of a query, in order
abbrev pub slots_of : Asked → List Slot
slots_of a = slots_from 0 a.groups

-- whether a list of suffixes has the one of a group; the unsuffixed group's never is there
abbrev pub lists_suffix : List (List ℕ) → Option (List ℕ) → Bool
lists_suffix names None = false
lists_suffix names (Some s) = has_text names s

-- whether a `same_subtree` lists the group of a slot, where there are both
abbrev pub lists_slot : Option (List (List ℕ)) → Option Slot → Bool
lists_slot None s = false
lists_slot (Some names) None = false
lists_slot (Some names) (Some s) = lists_suffix names s.suffix

-- whether the k-th `same_subtree` lists the group of the s-th slot
abbrev pub in_subtree : Asked → ℕ → ℕ → Bool
in_subtree a k s = lists_slot (slice_get a.subtrees k) (slice_get (slots_of a) s)
