-- Where `clap` finds no fault in the words of a command, each row that they made has a value.
use Rattle.std.proofs.Common.{◌≡◌, ◌<◌, ◌++◌, ◌∷◌, [], ℕ, zero, suc, Bool, true, false, List, Option, Some, None, length, length-append, refl, arith, rules, inl, inr}
use Rattle.std.specs.Prelude.{◌||◌, ⊤, find, nat_le, nat_lt, not}
use Rattle.std.specs.List.{AllByRecursion, list_all}
use Rattle.std.specs.Str.{bytes_eq}
use Rattle.std.proofs.lemmas.Bool.{cases_Bool}
use Rattle.clap.specs.Facts.{unwrap_or_range}
use Rattle.clap.specs.Faults.{action_fault, use_fault}
use Rattle.clap.specs.Kinds.{Kinds, or_else, range_kinds}
use Rattle.clap.specs.Values.{is_request}
use Rattle.clap.specs.Walk.{Row, Rule, Text, action_of, at_row, is_empty, more_values, most_values, reading_by, used, used_as, values_or_missing, with_values, without}
use Rattle.clap.specs.declared.builder.value_parser.Reading.{Reading}
use Rattle.clap.specs.declared.builder.ArgAction.{ArgAction}
use Rattle.clap.specs.declared.builder.ArgAction.TheVariants.{Set, Append, SetTrue, SetFalse, Count, Help, HelpShort, HelpLong, Version}
use Rattle.clap.specs.declared.parser.ValueSource.{ValueSource}

abbrev pub HasValue : Row → Type 0
HasValue row = 0 < length row.values

abbrev pub Filled : List Row → Type 0
Filled = AllByRecursion HasValue

-- ---- no fault in two steps is none in each

pub first_free : (a b : Kinds) → or_else a b ≡ [] → a ≡ []
first_free [] b e = refl
first_free (k ∷ ks) b e = e

pub then_free : (a b : Kinds) → or_else a b ≡ [] → b ≡ []
then_free [] b e = e
then_free (k ∷ ks) b e = absurd (cc e)

-- ---- rows that are changed or added

filled-append : (xs ys : List Row) → Filled xs → Filled ys → Filled (xs ++ ys)
filled-append [] ys f g = g
filled-append (x ∷ xs) ys f g = (f.0, filled-append xs ys f.1 g)

filled-at_row : (id : Text) (change : Row → List Row) (missing rows : List Row) → ((row : Row) → HasValue row → Filled (change row))
    → Filled missing → Filled rows → Filled (at_row id change missing rows)
filled-at_row id change missing [] changed added f = added
filled-at_row id change missing (row ∷ rows) changed added f = elim (cases_Bool (bytes_eq row.id id)) [
  | inl t ↦ rw t (filled-append (change row) rows (changed row f.0) f.1)
  | inr t ↦ rw t (f.0, filled-at_row id change missing rows changed added f.1)
]

filled-without : (id : Text) (rows : List Row) → Filled rows → Filled (without id rows)
filled-without id rows f = filled-at_row id (λ _. []) [] rows (λ row h. tt) tt f

pub filled-with_values : (id : Text) (how : Reading) (source : ValueSource) (values : List Text) (rows : List Row) → 0 < length values
    → Filled rows → Filled (with_values id how source values rows)
filled-with_values id how source values rows some f =
    filled-at_row id (more_values source values) _ rows (λ row h. (omega (arith, length-append row.values values), tt)) (some, tt) f

-- ---- one use of an argument

-- an argument that asks for help, takes one value or more, or has one where none is given
abbrev pub asks_or_takes : Rule → Bool
asks_or_takes a = is_request (action_of a) || (nat_le 1 (unwrap_or_range a.range).start_inclusive || not (is_empty a.missing))

abbrev pub KeptOption : Option Rule → Type 0
KeptOption None = ⊤
KeptOption (Some a) = asks_or_takes a ≡ true

pub kept-find : (q : Rule → Bool) (all : List Rule) → list_all asks_or_takes all ≡ true → KeptOption (find q all)
kept-find q [] k = tt
kept-find q (a ∷ all) k =
    let here : asks_or_takes a ≡ true = grind arith in
    let there : list_all asks_or_takes all ≡ true = grind arith in
    elim (cases_Bool (q a)) [ inl t ↦ rw t here | inr t ↦ rw t (kept-find q all there) ]

filled-used_as : (x : ArgAction) (id : Text) (how : Reading) (v : Text) (vs : List Text) (rows : List Row) → Filled rows
    → Filled (used_as x id how (v ∷ vs) rows)
filled-used_as Append id how v vs rows f = filled-with_values id how _ (v ∷ vs) rows (omega arith) f
filled-used_as Set id how v vs rows f = filled-with_values id how _ (v ∷ vs) (without id rows) (omega arith) (filled-without id rows f)
filled-used_as SetTrue id how v vs rows f = filled-with_values id how _ (v ∷ vs) (without id rows) (omega arith) (filled-without id rows f)
filled-used_as SetFalse id how v vs rows f = filled-with_values id how _ (v ∷ vs) (without id rows) (omega arith) (filled-without id rows f)
filled-used_as Count id how v vs rows f = filled-with_values id how _ (v ∷ vs) (without id rows) (omega arith) (filled-without id rows f)
filled-used_as _ id how v vs rows f = f

filled-by : (x : ArgAction) (id : Text) (how : Reading) (values : List Text) (rows : List Row) → is_empty values ≡ false → Filled rows → Filled (used_as x id how values rows)
filled-by x id how [] rows some f = cc
filled-by x id how (v ∷ vs) rows some f = filled-used_as x id how v vs rows f

request-fault : (x : ArgAction) (again : Bool) (a : Rule) (values : List Text) (rows : List Row) → is_request x ≡ true
    → action_fault x again a values rows ≡ [] → ⊥
request-fault Help again a values rows q e = cc
request-fault HelpShort again a values rows q e = cc
request-fault HelpLong again a values rows q e = cc
request-fault Version again a values rows q e = cc
request-fault _ again a values rows q e = cc

none_given : (least most : ℕ) → nat_le 1 least ≡ true → range_kinds least most 0 ≡ [] → ⊥
none_given zero most some e = cc
none_given (suc least) most some e =
    let wanted : nat_lt 0 (suc least) ≡ true = search (arith, rules) in
    cc (rw wanted at e)

pub filled-used : (again : Bool) (a : Rule) (values : List Text) (rows : List Row) → asks_or_takes a ≡ true
    → use_fault again a values rows ≡ [] → Filled rows → Filled (used a values rows)
filled-used again a (v ∷ vs) rows k e f = filled-used_as (action_of a) a.id (reading_by a) v vs rows f
filled-used again a [] rows k e f =
    let range = range_kinds (unwrap_or_range a.range).start_inclusive (most_values a) 0 in
    let acts = action_fault (action_of a) again a (values_or_missing a []) rows in
    elim (cases_Bool (is_request (action_of a))) [
      | inl t ↦ absurd (request-fault (action_of a) again a (values_or_missing a []) rows t (then_free range acts e))
      | inr t ↦ elim (cases_Bool (is_empty a.missing)) [
        | inl none ↦ absurd (none_given _ (most_values a) (grind arith) (first_free range acts e))
        | inr some ↦ filled-by (action_of a) a.id (reading_by a) a.missing rows some f
      ]
    ]
