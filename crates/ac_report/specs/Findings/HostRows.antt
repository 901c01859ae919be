-- The text of `hosts`: a header, and a row for each root, as `csv` writes them.
use Rattle.std.specs.Prelude.{ℕ, ◌-◌, Bool, true, false, List, [], ◌∷◌, map, length, codes, Option, None, Some, if◌then◌else◌}
use Rattle.std.specs.Fmt.{decimal}
use Rattle.std.specs.List.{filter, flat_map, list_any, range_with_len}
use Rattle.csv.specs.Writing.{default_writer, row_text}
use Rattle.ac_base.specs.Texts.{id_text}
use Rattle.ac_cloud.specs.World.{Provider, provider_at, id_at, is_member, is_root}
use Rattle.ac_query.specs.Asked.{Asked}
use Rattle.ac_rules.specs.Placed.{slot_at}
use Rattle.ac_report.specs.Names.{shown_name}
use Rattle.ac_report.specs.Texts.{meets_root}
use Rattle.ac_report.specs.Findings.Asks.{asks_text}
use Rattle.ac_report.specs.Findings.SlotDetails.{slot_detail}
use Rattle.ac_prune.specs.Fitting.{fits_at}
use Rattle.ac_find.specs.Details.{root_detail}
use Rattle.ac_find.specs.Furthest.{wanting}
use Rattle.ac_find.specs.Lacking.{lack_at}
use Rattle.ac_find.specs.Unheld.{unheld_detail}
use Rattle.ac_find.specs.declared.lacks.Stage.{Stage}
use Rattle.ac_find.specs.declared.lacks.Stage.TheVariants as stage
use Rattle.ac_find.specs.declared.lacks.Lack.{Lack}
use Rattle.ac_find.specs.declared.lacks.Lack.TheVariants as lack

-- ---- What stands in the columns

abbrev pub host_columns : List (List ℕ)
host_columns = codes "root" ∷ codes "name" ∷ codes "fits" ∷ codes "slot" ∷ codes "lacks" ∷ codes "asks" ∷ codes "detail" ∷ []

abbrev pub yes_or_no : Bool → List ℕ
yes_or_no true = codes "yes"
yes_or_no false = codes "no"

-- the number of a slot
abbrev pub slot_shown : Option Lack → List ℕ
slot_shown (Some (lack.Slot slot stage)) = decimal slot
slot_shown _ = []

abbrev pub stage_name : Stage → List ℕ
stage_name stage.Inventory = codes "no inventory"
stage_name stage.Units = codes "units"
stage_name stage.Traits = codes "traits"
stage_name stage.Aggregates = codes "aggregates"
stage_name stage.Tree = codes "tree"
stage_name stage.Room = codes "room"

abbrev pub lack_name : Option Lack → List ℕ
lack_name None = []
lack_name (Some lack.RootTraits) = codes "root traits"
lack_name (Some (lack.Slot slot stage)) = stage_name stage
lack_name (Some lack.RequiredTraits) = codes "required traits"
lack_name (Some lack.Together) = codes "together"

-- what the slot asks that a root lacks a provider for
abbrev pub asks_of : Asked → Option Lack → List ℕ
asks_of asked (Some (lack.Slot slot stage)) = asks_text (slot_at asked (slot - 1)).needs
asks_of asked _ = []

-- what is wanting there, or which trait of the root is, or what isn't held of what the group without a suffix requires
abbrev pub host_detail : List Provider → Asked → ℕ → Option Lack → List ℕ
host_detail all asked r (Some (lack.Slot slot stage)) = slot_detail all (slot_at asked (slot - 1)) (wanting all (slot_at asked (slot - 1)) r)
host_detail all asked r (Some lack.RootTraits) = root_detail (provider_at all r) asked
host_detail all asked r (Some lack.RequiredTraits) = unheld_detail all asked r
host_detail all asked r _ = []

-- ---- The rows

-- a root by its UUID and its name, whether it fits, and what it lacks, with what is asked there, and of what it is
abbrev pub host_fields : List ℕ → List ℕ → Bool → Option Lack → List ℕ → List ℕ → List (List ℕ)
host_fields root name fits lacks asks detail = root ∷ name ∷ yes_or_no fits ∷ slot_shown lacks ∷ lack_name lacks ∷ asks ∷ detail ∷ []

abbrev pub host_row : List Provider → Asked → ℕ → List (List ℕ)
host_row all asked r =
    host_fields (id_text (id_at all r)) (shown_name (provider_at all r).name) (fits_at all asked r) (lack_at all asked r) (asks_of asked (lack_at all asked r)) (host_detail all asked r (lack_at all asked r))

-- all roots, in the order of their UUIDs
abbrev pub roots_in_order : List Provider → List ℕ
roots_in_order all = filter (λ r. is_root all (id_at all r)) (range_with_len 0 (length all))

-- the providers that are members of an aggregate
abbrev pub members_of : List Provider → ℕ → List ℕ
members_of all aggregate = filter (λ p. is_member (provider_at all p) aggregate) (range_with_len 0 (length all))

-- a root is of an aggregate where a provider of its tree, itself among them, is a member; where none is named, each root is told
abbrev pub is_within : List Provider → Option ℕ → ℕ → Bool
is_within all None r = true
is_within all (Some aggregate) r = meets_root all (id_at all r) (members_of all aggregate)

-- all roots, or those of an aggregate alone
abbrev pub roots_within : List Provider → Option ℕ → List ℕ
roots_within all within = filter (is_within all within) (roots_in_order all)

-- these, or those of them alone that fit
abbrev pub roots_told : List Provider → Asked → Bool → Option ℕ → List ℕ
roots_told all asked false within = roots_within all within
roots_told all asked true within = filter (fits_at all asked) (roots_within all within)

unfoldable pub hosts_text : List Provider → Asked → Bool → Option ℕ → List ℕ
hosts_text all asked fitting within = flat_map (row_text default_writer) (host_columns ∷ map (host_row all asked) (roots_told all asked fitting within))

-- 0 where some of these roots fits, 1 where none does
abbrev pub hosts_status : List Provider → Asked → Option ℕ → ℕ
hosts_status all asked within = if list_any (fits_at all asked) (roots_within all within) then 0 else 1
