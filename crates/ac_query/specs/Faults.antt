-- The faults of a query, in one order.
use Rattle.std.specs.Prelude.{ℕ, ◌+◌, ◌&&◌, ◌||◌, not, nat_lt, Bool, true, false, List, [], ◌∷◌, ◌++◌, length, map, filter, sum_by, Option, Some, None, is_some, is_none, if◌then◌else◌}
use Rattle.std.specs.List.{list_any, flat_map}
use Rattle.std.specs.Str.{bytes_eq}
use Rattle.ac_query.specs.declared.version.Version.{Version}
use Rattle.ac_query.specs.Texts.{has_text, in_byte_order}
use Rattle.ac_query.specs.Pairs.Parameters.{Parameter, parameter, may_repeat}
use Rattle.ac_query.specs.Pairs.Values.{Given, given_of, is_conflict}
use Rattle.ac_query.specs.Pairs.{pairs_of}
use Rattle.ac_query.specs.Asked.{Group, Asked, lists_suffix}
use Rattle.ac_query.specs.Laws.Gathered.{asked_by}

-- A fault; the number is that of the pair, from 1. The unsuffixed group has no suffix.
pub data Fault : Type 0 where
  too_long : Fault
  unknown_parameter : ℕ → Fault
  repeated : ℕ → Fault
  bad_value : ℕ → Fault
  conflict : ℕ → Fault
  no_resources : Fault
  group_without_resources : Option (List ℕ) → Fault
  unknown_suffix : List ℕ → Fault
  policy_missing : Fault
  too_many_slots : Fault

-- the fault of the first condition that holds
abbrev pub first_fault : List (Bool × Fault) → Option Fault
first_fault [] = None
first_fault (c ∷ cs) = if c.0 then Some c.1 else first_fault cs

-- ---- a pair

-- whether the name is among earlier names, and may not be repeated
abbrev pub is_repeat : Version → List (List ℕ) → List ℕ → Parameter → Bool
is_repeat version earlier name q = not (may_repeat version q) && has_text earlier name

-- a trait required and forbidden in a value
abbrev pub has_conflict : Option Given → Bool
has_conflict None = false
has_conflict (Some v) = is_conflict v

-- what can be wrong with pair n, where its name is a parameter
abbrev pub known_conditions : Version → ℕ → List (List ℕ) → List ℕ × List ℕ → Parameter → List (Bool × Fault)
known_conditions version n earlier p q =
    (is_repeat version earlier p.0 q, repeated n)
    ∷ (is_none (given_of version q p.1), bad_value n)
    ∷ (has_conflict (given_of version q p.1), conflict n)
    ∷ []

-- what can be wrong with pair n, behind pairs of these names
abbrev pub conditions_of : Version → ℕ → List (List ℕ) → List ℕ × List ℕ → Option Parameter → List (Bool × Fault)
conditions_of version n earlier p None = (true, unknown_parameter n) ∷ []
conditions_of version n earlier p (Some q) = known_conditions version n earlier p q

abbrev pub pair_conditions : Version → ℕ → List (List ℕ) → List ℕ × List ℕ → List (Bool × Fault)
pair_conditions version n earlier p = conditions_of version n earlier p (parameter p.0)

-- the conditions of pairs in order, from pair n on, behind pairs of these names
abbrev pub pairs_conditions : Version → ℕ → List (List ℕ) → List (List ℕ × List ℕ) → List (Bool × Fault)
pairs_conditions version n earlier [] = []
pairs_conditions version n earlier (p ∷ ps) = pair_conditions version n earlier p ++ pairs_conditions version (n + 1) (earlier ++ p.0 ∷ []) ps

-- ---- all that is asked

-- whether a group has resources
abbrev pub has_resources : Option (List ℕ) × Group → Bool
has_resources g = nat_lt 0 (length g.1.needs)

-- the suffixes that any `same_subtree` lists, in byte order, each once
abbrev pub listed_suffixes : Asked → List (List ℕ)
listed_suffixes a = in_byte_order (flat_map (λ names. names) a.subtrees)

-- a group without resources that no `same_subtree` lists
abbrev pub group_condition : List (List ℕ) → Option (List ℕ) × Group → Bool × Fault
group_condition listed g = (not (has_resources g) && not (lists_suffix listed g.0), group_without_resources g.0)

-- whether a group has this suffix
abbrev pub is_of : List ℕ → Option (List ℕ) × Group → Bool
is_of s (None, g) = false
is_of s (Some t, g) = bytes_eq s t

-- a listed suffix of no group
abbrev pub suffix_condition : List (Option (List ℕ) × Group) → List ℕ → Bool × Fault
suffix_condition groups s = (not (list_any (is_of s) groups), unknown_suffix s)

-- a suffixed group with resources
abbrev pub needs_policy : Option (List ℕ) × Group → Bool
needs_policy g = is_some g.0 && has_resources g

-- how many slots a group has
abbrev pub slot_count : Option (List ℕ) × Group → ℕ
slot_count (None, g) = length g.needs
slot_count (Some s, g) = 1

-- how many (group, class) entries a group has
abbrev pub entry_count : Option (List ℕ) × Group → ℕ
entry_count g = length g.1.needs

-- more than 64 slots, or more than 256 entries
abbrev pub is_too_large : List (Option (List ℕ) × Group) → Bool
is_too_large groups = nat_lt 64 (sum_by slot_count groups) || nat_lt 256 (sum_by entry_count groups)

-- the conditions on all that is asked
abbrev pub asked_conditions : Asked → List (Bool × Fault)
asked_conditions a =
    (not (list_any has_resources a.groups), no_resources)
    ∷ map (group_condition (listed_suffixes a)) a.groups
    ++ map (suffix_condition a.groups) (listed_suffixes a)
    ++ (nat_lt 1 (length (filter needs_policy a.groups)) && is_none a.policy, policy_missing)
    ∷ (is_too_large a.groups, too_many_slots)
    ∷ []

-- ---- a query

-- the conditions on the text and its pairs, in order
abbrev pub text_conditions : Version → List ℕ → List (Bool × Fault)
text_conditions version query = (nat_lt 65536 (length query), too_long) ∷ pairs_conditions version 1 [] (pairs_of query)

-- the conditions on a query, in order
abbrev pub conditions : Version → List ℕ → List (Bool × Fault)
conditions version query = text_conditions version query ++ asked_conditions (asked_by version (pairs_of query))

-- the first fault of a query, as a version reads it
unfoldable pub query_fault : Version → List ℕ → Option Fault
query_fault version query = first_fault (conditions version query)
