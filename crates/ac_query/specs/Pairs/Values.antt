-- The value of each parameter's text.
use Rattle.std.specs.Prelude.{ℕ, Bool, true, false, ◌==◌, ◌&&◌, not, nat_lt, List, [], ◌∷◌, length, map, codes, Option, Some, None, if◌then◌else◌}
use Rattle.std.specs.List.{filter, list_any, position_or_len, before_first, after_first}
use Rattle.std.specs.Option.{option_map, option_and_then}
use Rattle.std.specs.Str.{bytes_eq}
use Rattle.ac_base.specs.Texts.{name_value, suffix_value, id_value, count_value}
use Rattle.ac_base.specs.Sorted.{TextMap, map_of}
use Rattle.ac_query.specs.declared.reading.parameter.Field.TheVariants as field
use Rattle.ac_query.specs.declared.version.Version.{Version}
use Rattle.ac_query.specs.Texts.{is_colon, items_of, behind, has_text, in_byte_order}
use Rattle.ac_query.specs.Versions.{has_any_of}
use Rattle.ac_query.specs.Pairs.Parameters.{Parameter, of_group, root_required, group_policy, same_subtree, limit}

-- ---- lists

-- the values of these, where each has one
abbrev pub values_of : {T X : Type 0} → (T → Option X) → List T → Option (List X)
values_of value [] = Some []
values_of value (t ∷ ts) = option_and_then (λ v. option_map (λ vs. v ∷ vs) (values_of value ts)) (value t)

-- the values of the items between commas, where each has one
abbrev pub list_value : {X : Type 0} → (List ℕ → Option X) → List ℕ → Option (List X)
list_value value text = values_of value (items_of text)

-- ---- `resources`: amounts by class

-- a number of a query: not 0
abbrev pub positive : ℕ → Option ℕ
positive n = if n == 0 then None else Some n

-- a number of at least 1
unfoldable pub amount_value : List ℕ → Option ℕ
amount_value text = option_and_then positive (count_value text)

-- the class and the amount of two texts
abbrev pub need_of : List ℕ → List ℕ → Option (List ℕ × ℕ)
need_of class amount = option_and_then (λ c. option_map (λ n. (c, n)) (amount_value amount)) (name_value class)

-- whether a text has a colon
abbrev pub has_colon : List ℕ → Bool
has_colon text = nat_lt (position_or_len is_colon text) (length text)

-- The class and the amount of an item `CLASS:n`. A class has no colon, so the first one parts them.
unfoldable pub need_value : List ℕ → Option (List ℕ × ℕ)
need_value item = if has_colon item then need_of (before_first is_colon item) (after_first is_colon item) else None

-- whether texts differ from these, and from each other
abbrev pub are_apart : List (List ℕ) → List (List ℕ) → Bool
are_apart seen [] = true
are_apart seen (t ∷ ts) = not (has_text seen t) && are_apart (t ∷ seen) ts

-- amounts by class, classes in byte order, where no class stands twice
abbrev pub by_class : List (List ℕ × ℕ) → Option (TextMap ℕ)
by_class needs = if are_apart [] (map (λ n. n.0) needs) then Some (map_of needs) else None

-- `CLASS:n,..`: each class once
unfoldable pub needs_value : List ℕ → Option (List (List ℕ × ℕ))
needs_value text = option_and_then by_class (list_value need_value text)

-- ---- `required`, `root_required`

-- traits that are required and traits that are forbidden, in byte order, each once
pub record Traits : Type 0 where
  pub required : List (List ℕ)
  pub forbidden : List (List ℕ)

abbrev pub no_traits : Traits
no_traits = record { required = []; forbidden = [] }

-- a trait's name, and whether it is forbidden
abbrev pub Marked : Type 0
Marked = Bool × List ℕ

-- what stands behind `!` is forbidden, and an item without it required
abbrev pub mark_of : List ℕ → Option (List ℕ) → Option Marked
mark_of item (Some name) = option_map (λ n. (true, n)) (name_value name)
mark_of item None = option_map (λ n. (false, n)) (name_value item)

unfoldable pub marked_value : List ℕ → Option Marked
marked_value item = mark_of item (behind (codes "!") item)

-- the names that are required and those that are forbidden
abbrev pub parted : List Marked → Traits
parted marks = record {
  required = in_byte_order (map (λ m. m.1) (filter (λ m. not m.0) marks));
  forbidden = in_byte_order (map (λ m. m.1) (filter (λ m. m.0) marks));
}

-- `TRAIT` or `!TRAIT`, one or more
unfoldable pub traits_value : List ℕ → Option Traits
traits_value text = option_map parted (list_value marked_value text)

-- whether a trait is required and forbidden
abbrev pub is_conflicting : Traits → Bool
is_conflicting t = list_any (has_text t.forbidden) t.required

-- ---- a list of traits of which one is asked

-- `TRAIT,..`: one or more, in byte order, each once
unfoldable pub names_value : List ℕ → Option (List (List ℕ))
names_value text = option_map in_byte_order (list_value name_value text)

-- what stands behind `in:`, where the version has such lists
unfoldable pub any_of_text : Version → List ℕ → Option (List ℕ)
any_of_text version text = if has_any_of version then behind (codes "in:") text else None

-- ---- `member_of`

-- a rule forbids its aggregates, or asks for one of them; they are as written
pub record AggregateRule : Type 0 where
  pub forbids : Bool
  pub ids : List ℕ

-- `U,..`: one or more, as written
unfoldable pub ids_value : List ℕ → Option (List ℕ)
ids_value text = list_value id_value text

-- `in:U,..`, where there is something behind `in:`, or `U`
abbrev pub listed_ids : List ℕ → Option (List ℕ) → Option (List ℕ)
listed_ids text (Some list) = ids_value list
listed_ids text None = option_map (λ id. id ∷ []) (id_value text)

-- `U` or `in:U,..`
unfoldable pub aggregates_value : List ℕ → Option (List ℕ)
aggregates_value text = listed_ids text (behind (codes "in:") text)

-- a rule of this text, where there is something behind `!` what that says is forbidden
abbrev pub rule_of : List ℕ → Option (List ℕ) → Option AggregateRule
rule_of text (Some plain) = option_map (λ us. record { forbids = true; ids = us }) (aggregates_value plain)
rule_of text None = option_map (λ us. record { forbids = false; ids = us }) (aggregates_value text)

-- `U`, `in:U,..`, `!U` or `!in:U,..`
unfoldable pub rule_value : List ℕ → Option AggregateRule
rule_value text = rule_of text (behind (codes "!") text)

-- ---- `same_subtree`

-- `S,..`: one or more, in byte order, each once
unfoldable pub subtree_value : List ℕ → Option (List (List ℕ))
subtree_value text = option_map in_byte_order (list_value suffix_value text)

-- ---- `group_policy`

-- `none` or `isolate`: whether it is `isolate`
unfoldable pub policy_value : List ℕ → Option Bool
policy_value text =
    if bytes_eq text (codes "isolate") then Some true else if bytes_eq text (codes "none") then Some false else None

-- ---- what a pair gives

-- a part of what is asked of a group: one case for each parameter of a group
pub data Part : Type 0 where
  needs : List (List ℕ × ℕ) → Part
  traits : Traits → Part
  any_of : List (List ℕ) → Part
  aggregates : AggregateRule → Part
  tree : ℕ → Part

-- what a pair gives: a part of a group, by its suffix, or one case for each other parameter
pub data Given : Type 0 where
  in_group : Option (List ℕ) → Part → Given
  root_traits : Traits → Given
  policy : Bool → Given
  subtree : List (List ℕ) → Given
  at_most : ℕ → Given

-- `in:TRAIT,..`, where there is such a list, or `TRAIT` and `!TRAIT`
abbrev pub required_part : List ℕ → Option (List ℕ) → Option Part
required_part text (Some list) = option_map any_of (names_value list)
required_part text None = option_map traits (traits_value text)

-- what `required` says of a group
unfoldable pub required_value : Version → List ℕ → Option Part
required_value version text = required_part text (any_of_text version text)

-- what a parameter and its text give, where the text has the parameter's form
abbrev pub given_of : Version → Parameter → List ℕ → Option Given
given_of version (of_group field.Resources g) text = option_map (λ v. in_group g (needs v)) (needs_value text)
given_of version (of_group field.Required g) text = option_map (in_group g) (required_value version text)
given_of version (of_group field.MemberOf g) text = option_map (λ v. in_group g (aggregates v)) (rule_value text)
given_of version (of_group field.InTree g) text = option_map (λ v. in_group g (tree v)) (id_value text)
given_of version root_required text = option_map root_traits (traits_value text)
given_of version group_policy text = option_map policy (policy_value text)
given_of version same_subtree text = option_map subtree (subtree_value text)
given_of version limit text = option_map at_most (amount_value text)

-- whether a part requires and forbids one trait
abbrev pub is_part_conflict : Part → Bool
is_part_conflict (needs v) = false
is_part_conflict (traits t) = is_conflicting t
is_part_conflict (any_of names) = false
is_part_conflict (aggregates r) = false
is_part_conflict (tree u) = false

-- whether what is given requires and forbids one trait
abbrev pub is_conflict : Given → Bool
is_conflict (in_group g p) = is_part_conflict p
is_conflict (root_traits t) = is_conflicting t
is_conflict (policy b) = false
is_conflict (subtree names) = false
is_conflict (at_most n) = false
