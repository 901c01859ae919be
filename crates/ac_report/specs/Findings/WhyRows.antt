-- The text of `why`: a header; for each slot a row for each of its classes that nobody has, and for each provider that is looked at; a row for the
-- root; and the verdict of `hosts` on it.
pub mod Shown
use Rattle.std.specs.Prelude.{ℕ, ◌+◌, ◌||◌, Bool, true, false, not, List, [], ◌∷◌, ◌++◌, map, length, codes, Option, None, Some, if◌then◌else◌}
use Rattle.std.specs.Fmt.{decimal}
use Rattle.std.specs.List.{filter, flat_map, list_any, range_with_len}
use Rattle.std.specs.Option.{unwrap_or}
use Rattle.csv.specs.Writing.{default_writer, row_text}
use Rattle.ac_base.specs.Texts.{id_text}
use Rattle.ac_cloud.specs.World.{Provider, provider_at, id_at, place_of, root_of}
use Rattle.ac_prune.specs.Ahead.{hosts_of}
use Rattle.ac_query.specs.Asked.{Asked, Slot, slots_of}
use Rattle.ac_report.specs.Names.{shown_name}
use Rattle.ac_rules.specs.Placed.{Placed, placed_at, slot_at}
use Rattle.ac_rules.specs.Together.{is_empty, takes_root}
use Rattle.ac_find.specs.Explained.{has_inventory}
use Rattle.ac_find.specs.Lacking.{first_failed, lack_at}
use Rattle.ac_find.specs.Missing.{somebody_there_has_class}
use Rattle.ac_find.specs.declared.lacks.Stage.{Stage}
use Rattle.ac_find.specs.declared.lacks.Stage.TheVariants as stage
use Rattle.ac_find.specs.declared.lacks.Lack.{Lack}
use Rattle.ac_find.specs.declared.lacks.Lack.TheVariants as lack
use Rattle.ac_base.specs.Writing.Pieces.{printed}
use Rattle.ac_find.specs.Details.{root_detail}
use Rattle.ac_find.specs.Unheld.{unheld_detail}
use Rattle.ac_report.specs.Findings.Asks.{asks_text}
use Rattle.ac_report.specs.Findings.HostRows.{lack_name, stage_name}
use Rattle.ac_report.specs.Findings.SlotDetails.{detail_of, nobody_text}

-- the root of a provider's tree, by its place
abbrev pub root_place : List Provider → ℕ → ℕ
root_place all p = unwrap_or (place_of all (root_of all (id_at all p))) (length all)

-- ---- What stands in the columns

abbrev pub why_columns : List (List ℕ)
why_columns = codes "slot" ∷ codes "suffix" ∷ codes "asks" ∷ codes "provider" ∷ codes "name" ∷ codes "lacks" ∷ codes "detail" ∷ []

-- of which slot a row is: its number, the suffix of its group, and what it asks
abbrev pub slot_front : ℕ → Slot → List (List ℕ)
slot_front number slot = decimal number ∷ printed slot.suffix ∷ asks_text slot.needs ∷ []

-- or what it is of in place of a slot
abbrev pub other_front : List ℕ → List (List ℕ)
other_front name = name ∷ [] ∷ [] ∷ []

-- behind that a provider by its UUID and its name, what is lacking, and of what
abbrev pub why_fields : List (List ℕ) → List ℕ → List ℕ → List ℕ → List ℕ → List (List ℕ)
why_fields front provider name lacks detail = front ++ provider ∷ name ∷ lacks ∷ detail ∷ []

abbrev pub provider_fields : List (List ℕ) → List Provider → ℕ → List ℕ → List ℕ → List (List ℕ)
provider_fields front all p lacks detail = why_fields front (id_text (id_at all p)) (shown_name (provider_at all p).name) lacks detail

-- ---- The rows of a slot

-- of some classes those of which nobody who is available in the tree of a root has an inventory, in their order
abbrev pub nobodys : List Provider → ℕ → List (List ℕ × ℕ) → List (List ℕ × ℕ)
nobodys all r needs = filter (λ need. not (somebody_there_has_class all r need.0)) needs

-- such a class; no provider is named
abbrev pub nobody_row : List (List ℕ) → List ℕ → List (List ℕ)
nobody_row front class = why_fields front [] [] (stage_name stage.Inventory) (nobody_text class)

abbrev pub nobody_rows : List Provider → ℕ → List (List ℕ) → List (List ℕ × ℕ) → List (List (List ℕ))
nobody_rows all r front needs = map (λ need. nobody_row front need.0) (nobodys all r needs)

abbrev pub stage_shown : Option Stage → List ℕ
stage_shown None = []
stage_shown (Some failed) = stage_name failed

-- a provider in a slot of this number: the first of the slot's tests that it fails
abbrev pub placed_row : List Provider → ℕ → Placed → List (List ℕ)
placed_row all number x = provider_fields (slot_front number x.slot) all x.provider (stage_shown (first_failed all x)) (detail_of all x (first_failed all x))

-- a provider has an inventory of one of the slot's classes; where the slot has no class, each is looked at
abbrev pub has_a_class : Provider → List (List ℕ × ℕ) → Bool
has_a_class p needs = is_empty needs || list_any (λ need. has_inventory p need.0) needs

-- the providers that are available in the tree of a root, those of other trees that share with it among them, and that have such a class
abbrev pub looked_at : List Provider → ℕ → Slot → List ℕ
looked_at all r slot = filter (λ p. has_a_class (provider_at all p) slot.needs) (hosts_of all r)

-- a row for each of them, in the order of places
abbrev pub provider_rows : List Provider → Asked → ℕ → ℕ → List (List (List ℕ))
provider_rows all asked r s = map (λ p. placed_row all (s + 1) (placed_at asked s p)) (looked_at all r (slot_at asked s))

-- slots are numbered from 1
abbrev pub slot_rows : List Provider → Asked → ℕ → ℕ → List (List (List ℕ))
slot_rows all asked r s = nobody_rows all r (slot_front (s + 1) (slot_at asked s)) (slot_at asked s).needs ++ provider_rows all asked r s

abbrev pub rows_of_slots : List Provider → Asked → ℕ → List (List (List ℕ))
rows_of_slots all asked r = flat_map (λ s. slot_rows all asked r s) (range_with_len 0 (length (slots_of asked)))

-- ---- The rows of the root

abbrev pub root_lack : Bool → List ℕ
root_lack true = []
root_lack false = codes "root traits"

-- whether the query takes the root, and else the first trait for which it doesn't
abbrev pub root_row : List Provider → Asked → ℕ → List (List ℕ)
root_row all asked r = provider_fields (other_front (codes "root")) all r (root_lack (takes_root all asked r)) (root_detail (provider_at all r) asked)

-- what `hosts` says of the root, with the slot or the trait that is lacking
abbrev pub verdict_detail : List Provider → Asked → ℕ → Option Lack → List ℕ
verdict_detail all asked r None = codes "fits"
verdict_detail all asked r (Some (lack.Slot slot stage)) = codes "slot " ++ (decimal slot ++ codes ": does not fit")
verdict_detail all asked r (Some lack.RequiredTraits) = unheld_detail all asked r
verdict_detail all asked r (Some lack.RootTraits) = codes "does not fit"
verdict_detail all asked r (Some lack.Together) = codes "does not fit"

abbrev pub verdict_row : List Provider → Asked → ℕ → List (List ℕ)
verdict_row all asked r = provider_fields (other_front (codes "verdict")) all r (lack_name (lack_at all asked r)) (verdict_detail all asked r (lack_at all asked r))

unfoldable pub why_text : List Provider → Asked → ℕ → List ℕ
why_text all asked r =
    flat_map (row_text default_writer) (((why_columns ∷ rows_of_slots all asked r) ++ root_row all asked r ∷ []) ++ verdict_row all asked r ∷ [])

-- 0 where the root fits, 1 where it doesn't
abbrev pub why_status : Bool → ℕ
why_status fits = if fits then 0 else 1
