-- Laws of the definitions.
pub mod Gathered
pub mod InOrder
use Rattle.std.specs.Prelude.{◌≡◌, ℕ, ◌^◌, ◌<◌, List, [], ◌∷◌, Some, None}
use Rattle.std.specs.List.{AllByRecursion, slice_get}
use Rattle.std.specs.Option.{option_and_then, option_map}
use Rattle.std.specs.List.Sorted.{IsStrictlySortedBy}
use Rattle.ac_base.specs.Texts.{text_cmp, id_value, name_value, suffix_value}
use Rattle.ac_query.specs.declared.version.Version.{Version}
use Rattle.ac_query.specs.Texts.{has_text, in_byte_order, items_of}
use Rattle.ac_query.specs.Pairs.Values.{values_of, marked_value, parted, by_class, ids_value, names_value, need_value, needs_value, subtree_value, traits_value}
use Rattle.ac_query.specs.Asked.{Asked, slots_of}
use Rattle.ac_query.specs.Asks.{Asks}
use Rattle.ac_query.specs.Laws.Gathered.{asked_by}
use Rattle.ac_query.specs.Faults.{first_fault, pairs_conditions}
use Rattle.ac_query.specs.Tokens.{ids_text}

-- Where no pair has a fault, exactly one record is what the pairs ask for.
abbrev pub AsksOnce : Type 0
AsksOnce =
    (version : Version) (pairs : List (List ℕ × List ℕ)) → first_fault (pairs_conditions version 1 [] pairs) ≡ None
    → Asks version pairs (asked_by version pairs) × ((a : Asked) → Asks version pairs a → a ≡ asked_by version pairs)

-- The text of ids is read as these ids, in order: so a token of as many as there are slots is accepted.
abbrev pub TokenReads : Type 0
TokenReads = (id : ℕ) (ids : List ℕ) → AllByRecursion (λ i. i < 2 ^ 128) (id ∷ ids) → ids_value (ids_text (id ∷ ids)) ≡ Some (id ∷ ids)

-- Texts in byte order rise, and are those that they were made of.
abbrev pub OrderHolds : Type 0
OrderHolds =
    (texts : List (List ℕ))
    → IsStrictlySortedBy text_cmp (in_byte_order texts) × ((t : List ℕ) → has_text (in_byte_order texts) t ≡ has_text texts t)

-- A list has a value where each of its items has one: names, suffixes and the traits of each kind in byte order, each once; ids as written; and
-- amounts by class, where no class stands twice.
pub record ListsMean : Type 0 where
  pub names : (text : List ℕ) → names_value text ≡ option_map in_byte_order (values_of name_value (items_of text))
  pub suffixes : (text : List ℕ) → subtree_value text ≡ option_map in_byte_order (values_of suffix_value (items_of text))
  pub ids : (text : List ℕ) → ids_value text ≡ values_of id_value (items_of text)
  pub traits : (text : List ℕ) → traits_value text ≡ option_map parted (values_of marked_value (items_of text))
  pub needs : (text : List ℕ) → needs_value text ≡ option_and_then by_class (values_of need_value (items_of text))

-- The place of a slot is that of its group.
abbrev pub SlotsNameGroups : Type 0
SlotsNameGroups = (a : Asked) → AllByRecursion (λ s. slice_get a.groups s.place ≡ Some (s.suffix, s.group)) (slots_of a)
