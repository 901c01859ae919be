-- What a second line says of a fault of a query, of a token or of a host: what it is of, and what to do so that the next run passes.
pub mod Near
pub mod Slots
pub mod Wanted
use Rattle.std.specs.Prelude.{ℕ, ◌-◌, List, [], ◌∷◌, ◌++◌, codes, length, Option, Some, None}
use Rattle.std.specs.Fmt.{decimal}
use Rattle.std.specs.List.{flat_map, slice_get}
use Rattle.ac_cloud.specs.declared.cloud.provider_name.HostFault.{HostFault}
use Rattle.ac_cloud.specs.declared.cloud.provider_name.HostFault.TheVariants as host
use Rattle.ac_query.specs.declared.token.TokenFault.{TokenFault}
use Rattle.ac_query.specs.declared.token.TokenFault.TheVariants as token
use Rattle.ac_query.specs.declared.version.Version.{Version}
use Rattle.ac_query.specs.Asked.{Asked, slots_of}
use Rattle.ac_query.specs.Faults.{Fault, too_long, unknown_parameter, repeated, bad_value, conflict, no_resources, group_without_resources, unknown_suffix, policy_missing, too_many_slots}
use Rattle.ac_query.specs.Pairs.{pairs_of}
use Rattle.ac_query.specs.Texts.{items_of}
use Rattle.ac_remedies.specs.Quoted.{quoted, said, shown}
use Rattle.ac_remedies.specs.Queries.Near.{near_remedy}
use Rattle.ac_remedies.specs.Queries.Slots.{slots_text}
use Rattle.ac_remedies.specs.Queries.Wanted.{bad_value_remedy, conflict_remedy, repeated_remedy}

-- a remedy as a line
unfoldable pub remedy_line : List ℕ → List ℕ
remedy_line remedy = said (codes "  " ∷ remedy ∷ codes "\n" ∷ [])

-- the line of a text, which stands in quotes
unfoldable pub quoted_line : List ℕ → List ℕ → List ℕ
quoted_line text remedy = said (codes "  " ∷ quoted text ∷ codes ": " ∷ remedy ∷ codes "\n" ∷ [])

-- the line of a pair: its name, which a terminal can show as it does those of parameters, and its value in quotes
unfoldable pub pair_line : List ℕ × List ℕ → List ℕ → List ℕ
pair_line p remedy = said (codes "  " ∷ flat_map shown p.0 ∷ codes "=" ∷ quoted p.1 ∷ codes ": " ∷ remedy ∷ codes "\n" ∷ [])

-- ---- a query

-- the pair of a number, from 1
abbrev pub pair_at : List ℕ → ℕ → Option (List ℕ × List ℕ)
pair_at text n = slice_get (pairs_of text) (n - 1)

-- Lines of a pair; where it isn't there, the remedy alone, as for a name and a value without bytes.
abbrev pub unknown_line : Option (List ℕ × List ℕ) → List ℕ
unknown_line (Some p) = quoted_line p.0 (near_remedy p.0)
unknown_line None = remedy_line (near_remedy [])

abbrev pub repeated_line : Option (List ℕ × List ℕ) → List ℕ
repeated_line (Some p) = pair_line p (repeated_remedy p.0)
repeated_line None = remedy_line (repeated_remedy [])

abbrev pub bad_value_line : Version → Option (List ℕ × List ℕ) → List ℕ
bad_value_line version (Some p) = pair_line p (bad_value_remedy version p.0 p.1)
bad_value_line version None = remedy_line (bad_value_remedy version [] [])

abbrev pub conflict_line : Option (List ℕ × List ℕ) → List ℕ
conflict_line (Some p) = pair_line p (conflict_remedy p.1)
conflict_line None = remedy_line (conflict_remedy [])

-- a group without resources
unfoldable pub bare_text : List ℕ → List ℕ
bare_text s = codes "add resources" ++ (s ++ (codes "=CLASS:AMOUNT, or list " ++ (s ++ codes " in a same_subtree")))

abbrev pub bare_line : Option (List ℕ) → List ℕ
bare_line None = remedy_line (codes "add resources=CLASS:AMOUNT, or write the suffix of a group with resources behind the names of the other parameters")
bare_line (Some s) = remedy_line (bare_text s)

-- a suffix of no group
unfoldable pub stray_text : List ℕ → List ℕ
stray_text s = codes "add resources" ++ (s ++ (codes "=CLASS:AMOUNT, or take " ++ (s ++ codes " off the list of same_subtree")))

abbrev pub stray_line : List ℕ → List ℕ
stray_line s = remedy_line (stray_text s)

-- the line of a fault of a query, as a version reads it
unfoldable pub fault_line : Version → List ℕ → Fault → List ℕ
fault_line version text too_long = remedy_line (codes "a query has at most 65536 bytes: ask for less, or in several queries")
fault_line version text (unknown_parameter n) = unknown_line (pair_at text n)
fault_line version text (repeated n) = repeated_line (pair_at text n)
fault_line version text (bad_value n) = bad_value_line version (pair_at text n)
fault_line version text (conflict n) = conflict_line (pair_at text n)
fault_line version text no_resources = remedy_line (codes "add resources=CLASS:AMOUNT, as in resources=VCPU:1")
fault_line version text (group_without_resources s) = bare_line s
fault_line version text (unknown_suffix s) = stray_line s
fault_line version text policy_missing =
    remedy_line (codes "add group_policy=none, and groups may share a provider, or group_policy=isolate, and each has its own")
fault_line version text too_many_slots =
    remedy_line (codes "a query has at most 64 slots, and 256 classes over all groups: ask for less, or in several queries")

-- want of memory has no second line
abbrev pub query_remedy : Version → List ℕ → Option Fault → List ℕ
query_remedy version text None = []
query_remedy version text (Some f) = fault_line version text f

-- ---- a token

-- how many UUIDs a token has, and how many slots there are
unfoldable pub counts_text : ℕ → ℕ → List ℕ
counts_text has wants = codes "UUIDs " ++ (decimal has ++ (codes ", slots " ++ (decimal wants ++ codes ": one for each of ")))

unfoldable pub length_remedy : ℕ → ℕ → List ℕ → List ℕ
length_remedy has wants slots = said (counts_text has wants ∷ slots ∷ codes "in this order" ∷ [])

unfoldable pub form_remedy : List ℕ → List ℕ
form_remedy slots = said (codes "UUIDs between commas: one for each of " ∷ slots ∷ codes "in this order" ∷ [])

unfoldable pub token_remedy : List ℕ → Asked → TokenFault → List ℕ
token_remedy text a token.BadToken = quoted_line text (form_remedy (slots_text a))
token_remedy text a token.WrongLength = remedy_line (length_remedy (length (items_of text)) (length (slots_of a)) (slots_text a))
token_remedy text a token.NoMemory = []

-- ---- a host

unfoldable pub host_remedy : List ℕ → HostFault → List ℕ
host_remedy text host.Unknown = quoted_line text (codes "no provider has this UUID or this name: give one that is in the table of providers")
host_remedy text host.Ambiguous = quoted_line text (codes "several providers have this name: give the UUID of one of them")
