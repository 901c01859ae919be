-- The record that the pairs of a query ask for, by cases: one for each parameter.
use Rattle.std.specs.Prelude.{◌≡◌, ℕ, Bool, true, false, List, [], ◌∷◌, ◌++◌, map, Option, Some, None, if◌then◌else◌}
use Rattle.std.specs.List.{filter_map, flat_map, AllByRecursion}
use Rattle.std.specs.Str.{bytes_eq}
use Rattle.ac_query.specs.declared.version.Version.{Version}
use Rattle.ac_query.specs.Texts.{in_byte_order}
use Rattle.ac_query.specs.Pairs.Values.{AggregateRule, Part, needs, traits, any_of, aggregates, tree, Given, in_group, root_traits, policy, subtree, at_most}
use Rattle.ac_query.specs.Pairs.{given}
use Rattle.ac_query.specs.Asked.{Group, Asked}

-- A value that is given once at most: it is the one that is given, and where none is, what stands for none.
abbrev pub IsTold : {A : Type 0} → A → A → List A → Type 0
IsTold none a [] = a ≡ none
IsTold none a (v ∷ []) = a ≡ v
IsTold none a (v ∷ w ∷ vs) = ⊥

-- ---- a group, from its parts in order

-- what a part says of `resources`
abbrev pub needs_in : Part → Option (List (List ℕ × ℕ))
needs_in (needs v) = Some v
needs_in (traits t) = None
needs_in (any_of names) = None
needs_in (aggregates r) = None
needs_in (tree u) = None

-- the traits that a part requires
abbrev pub required_in : Part → List (List ℕ)
required_in (needs v) = []
required_in (traits t) = t.required
required_in (any_of names) = []
required_in (aggregates r) = []
required_in (tree u) = []

-- the traits that a part forbids
abbrev pub forbidden_in : Part → List (List ℕ)
forbidden_in (needs v) = []
forbidden_in (traits t) = t.forbidden
forbidden_in (any_of names) = []
forbidden_in (aggregates r) = []
forbidden_in (tree u) = []

-- the list of a part of which one trait is asked
abbrev pub any_of_in : Part → Option (List (List ℕ))
any_of_in (needs v) = None
any_of_in (traits t) = None
any_of_in (any_of names) = Some names
any_of_in (aggregates r) = None
any_of_in (tree u) = None

-- what a part says of `member_of`
abbrev pub rule_in : Part → Option AggregateRule
rule_in (needs v) = None
rule_in (traits t) = None
rule_in (any_of names) = None
rule_in (aggregates r) = Some r
rule_in (tree u) = None

-- what a part says of `in_tree`
abbrev pub tree_in : Part → Option (Option ℕ)
tree_in (needs v) = None
tree_in (traits t) = None
tree_in (any_of names) = None
tree_in (aggregates r) = None
tree_in (tree u) = Some (Some u)

-- The group of these parts: its needs are those of its one `resources`, its traits those of all its `required`, its lists of which one
-- trait is asked those of its `required` in order, its rules those of all its `member_of` in order, its tree that of its one `in_tree`.
pub record AsksOfGroup (parts : List Part) (g : Group) : Type 0 where
  pub needs : IsTold [] g.needs (filter_map needs_in parts)
  pub required : g.required ≡ in_byte_order (flat_map required_in parts)
  pub forbidden : g.forbidden ≡ in_byte_order (flat_map forbidden_in parts)
  pub any_of : g.any_of ≡ filter_map any_of_in parts
  pub member_of : g.member_of ≡ filter_map rule_in parts
  pub in_tree : IsTold None g.in_tree (filter_map tree_in parts)

-- ---- the whole, from what the pairs give

-- whether these are the same suffix, or both none
abbrev pub same_suffix : Option (List ℕ) → Option (List ℕ) → Bool
same_suffix None None = true
same_suffix None (Some t) = false
same_suffix (Some s) None = false
same_suffix (Some s) (Some t) = bytes_eq s t

-- what is given of a group, and its suffix
abbrev pub group_part : Given → Option (Option (List ℕ) × Part)
group_part (in_group s p) = Some (s, p)
group_part (root_traits t) = None
group_part (policy b) = None
group_part (subtree names) = None
group_part (at_most n) = None

-- all that is given of groups, in order
abbrev pub group_parts : List Given → List (Option (List ℕ) × Part)
group_parts gs = filter_map group_part gs

-- a part, where it is of the group of a suffix
abbrev pub part_for : Option (List ℕ) → Option (List ℕ) × Part → Option Part
part_for s e = if same_suffix s e.0 then Some e.1 else None

-- all that is given of the group of a suffix, in order
abbrev pub parts_of : Option (List ℕ) → List Given → List Part
parts_of s gs = filter_map (part_for s) (group_parts gs)

-- the unsuffixed group, where it has a part
abbrev pub unsuffixed : List Part → List (Option (List ℕ))
unsuffixed [] = []
unsuffixed (p ∷ ps) = None ∷ []

-- The groups that are given: the unsuffixed one first, then suffixes in byte order, each once.
abbrev pub groups_given : List Given → List (Option (List ℕ))
groups_given gs = unsuffixed (parts_of None gs) ++ map (λ s. Some s) (in_byte_order (filter_map (λ e. e.0) (group_parts gs)))

-- the traits that are required of the root
abbrev pub root_required_in : Given → List (List ℕ)
root_required_in (in_group s p) = []
root_required_in (root_traits t) = t.required
root_required_in (policy b) = []
root_required_in (subtree names) = []
root_required_in (at_most n) = []

-- the traits that are forbidden to the root
abbrev pub root_forbidden_in : Given → List (List ℕ)
root_forbidden_in (in_group s p) = []
root_forbidden_in (root_traits t) = t.forbidden
root_forbidden_in (policy b) = []
root_forbidden_in (subtree names) = []
root_forbidden_in (at_most n) = []

-- what is said of `group_policy`
abbrev pub policy_in : Given → Option (Option Bool)
policy_in (in_group s p) = None
policy_in (root_traits t) = None
policy_in (policy b) = Some (Some b)
policy_in (subtree names) = None
policy_in (at_most n) = None

-- what is said of `same_subtree`
abbrev pub subtree_in : Given → Option (List (List ℕ))
subtree_in (in_group s p) = None
subtree_in (root_traits t) = None
subtree_in (policy b) = None
subtree_in (subtree names) = Some names
subtree_in (at_most n) = None

-- what is said of `limit`
abbrev pub limit_in : Given → Option (Option ℕ)
limit_in (in_group s p) = None
limit_in (root_traits t) = None
limit_in (policy b) = None
limit_in (subtree names) = None
limit_in (at_most n) = Some (Some n)

-- The record that the pairs ask for. A group is there where any of its parameters is given.
pub record Asks (version : Version) (pairs : List (List ℕ × List ℕ)) (a : Asked) : Type 0 where
  pub groups : map (λ e. e.0) a.groups ≡ groups_given (given version pairs)
  pub parts : AllByRecursion (λ e. AsksOfGroup (parts_of e.0 (given version pairs)) e.1) a.groups
  pub policy : IsTold None a.policy (filter_map policy_in (given version pairs))
  pub subtrees : a.subtrees ≡ filter_map subtree_in (given version pairs)
  pub root_required : a.root_required ≡ in_byte_order (flat_map root_required_in (given version pairs))
  pub root_forbidden : a.root_forbidden ≡ in_byte_order (flat_map root_forbidden_in (given version pairs))
  pub limit : IsTold None a.limit (filter_map limit_in (given version pairs))
