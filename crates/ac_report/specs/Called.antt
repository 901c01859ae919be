-- What texts stand for: a UUID for itself, and a name for the only one that has it.
use Rattle.std.specs.Prelude.{◌≡◌, ℕ, nat_eq, ◌==◌, ◌&&◌, Bool, false, true, not, List, [], ◌∷◌, length, map, Option, Some, None, Result, Ok, Err, if◌then◌else◌}
use Rattle.std.specs.Borrow.{Bor}
use Rattle.std.specs.BTreeMap.{BTreeMap, get_by}
use Rattle.std.specs.Cmp.Lexicographic.{slice_cmp}
use Rattle.std.specs.List.{filter, flat_map, list_all, starts_with}
use Rattle.std.specs.Ordering.{nat_cmp}
use Rattle.std.specs.Str.{bytes_eq}
use Rattle.csv.specs.Writing.{default_writer, row_text}
use Rattle.ac_base.specs.Texts.{id_text, id_value}
use Rattle.ac_cloud.specs.World.{Provider, id_at, provider_at}
use Rattle.ac_report.specs.Names.{shown_name}
use Rattle.ac_report.specs.Texts.{line}
use Rattle.ac_report.specs.declared.called.NameFault.{NameFault}
use Rattle.ac_report.specs.declared.called.NameFault.TheVariants as fault
use Rattle.ac_report.specs.declared.called.Names as rust

-- what has which name: the UUID of each, as a number, with its name
abbrev pub Called : Type 0
Called = List (ℕ × List ℕ)

-- whether it has this name; an empty text is none
abbrev pub is_called : List ℕ → ℕ × List ℕ → Bool
is_called name one = not (length one.1 == 0) && bytes_eq one.1 name

-- the UUIDs of those that have a name
abbrev pub ids_called : Called → List ℕ → List ℕ
ids_called called name = map (λ one. one.0) (filter (is_called name) called)

-- the only one of some, which may stand there more than once
abbrev pub only_id : List ℕ → Result ℕ NameFault
only_id [] = Err fault.Unknown
only_id (id ∷ more) = if list_all (λ other. other == id) more then Ok id else Err fault.Ambiguous

-- the UUID that is there, else the only one of these
abbrev pub id_or_only : Option ℕ → List ℕ → Result ℕ NameFault
id_or_only (Some id) ids = Ok id
id_or_only None ids = only_id ids

-- the UUID that a text is, and else that of the only one of this name
unfoldable pub stands_for : Called → List ℕ → Result ℕ NameFault
stands_for called text = id_or_only (id_value text) (ids_called called text)

-- the providers with their names
abbrev pub called_of : Provider → ℕ × List ℕ
called_of p = (p.id, p.name)

abbrev pub providers_called : List Provider → Called
providers_called all = map called_of all

-- ---- what is written of a provider by name

-- whether a text stands for this one
abbrev pub is_for : ℕ → Result ℕ NameFault → Bool
is_for id (Ok found) = found == id
is_for id (Err f) = false

-- whether a text begins with a byte order mark, which a reader of `csv` takes away
abbrev pub has_mark : List ℕ → Bool
has_mark text = starts_with nat_eq text (239 ∷ 187 ∷ 191 ∷ [])

-- whether its name is written as it is, and read so, and stands for it alone
unfoldable pub is_named : List Provider → ℕ → Bool
is_named all ix =
    let name = (provider_at all ix).name in
    bytes_eq (shown_name name) name && not (has_mark name) && is_for (id_at all ix) (stands_for (providers_called all) name)

-- its name, where that is so; else its UUID
abbrev pub named_text : List Provider → ℕ → List ℕ
named_text all ix = if is_named all ix then (provider_at all ix).name else id_text (id_at all ix)

-- a list by names, as `csv` writes it
unfoldable pub named_line : List Provider → List ℕ → List ℕ
named_line all list = row_text default_writer (map (named_text all) list)

-- the line of a list: of UUIDs, or by names
abbrev pub line_by : Bool → List Provider → List ℕ → List ℕ
line_by false all list = line all list
line_by true all list = named_line all list

-- a line for each list
abbrev pub lines_by : Bool → List Provider → List (List ℕ) → List ℕ
lines_by named all lists = flat_map (line_by named all) lists

-- ---- what is kept of it

-- what is known of those that have a name: nothing, or the only one, or that they are several
abbrev pub known_by : List ℕ → Option (Option ℕ)
known_by [] = None
known_by (id ∷ more) = Some (if list_all (λ other. other == id) more then Some id else None)

-- the only one that has a name, with one more
abbrev pub joined : Option (Option ℕ) → ℕ → Option ℕ
joined None id = Some id
joined (Some None) id = None
joined (Some (Some other)) id = if id == other then Some other else None

abbrev pub known_of : BTreeMap (Bor (List ℕ)) (Option ℕ) → List ℕ → Option (Option ℕ)
known_of known name = get_by (λ k. slice_cmp nat_cmp name k.now) known

-- of each name what is known is what these have
abbrev pub AreCalled : Called → rust.Names → Type 0
AreCalled called names = (name : List ℕ) → known_of names.known name ≡ known_by (ids_called called name)
