-- Names in place of UUIDs in the queries of a table of flavors.
use Rattle.std.specs.Prelude.{ℕ, ◌+◌, ◌||◌, nat_lt, List, [], ◌∷◌, codes, decimal, length, map, Result, Ok, if◌then◌else◌}
use Rattle.std.specs.List.{flat_map}
use Rattle.std.specs.Option.{is_some}
use Rattle.std.specs.Result.{result_map_both}
use Rattle.std.specs.Str.{is_utf8}
use Rattle.csv.specs.Writing.{default_writer, row_text}
use Rattle.ac_report.specs.declared.called.NameFault.{NameFault}
use Rattle.ac_run.specs.Wanted.Named.{Naming, each_found, mapped, query_with_ids}
use Rattle.ac_tables.specs.Drain.{most_bytes}
use Rattle.ac_tables.specs.Flavors.{Flavor, flavors_fault, flavors_said}
use Rattle.ac_tables.specs.Tables.Rows.{records_of}

-- a query with UUIDs in place of names; one that is no text stays
abbrev pub query_named : Naming → List ℕ → Result (List ℕ) (ℕ × NameFault)
query_named naming query = if is_utf8 query then query_with_ids naming query else Ok query

-- flavors with the numbers of their records, of which the first has this one
abbrev pub with_records : ℕ → List Flavor → List (ℕ × Flavor)
with_records row [] = []
with_records row (f ∷ fs) = (row, f) ∷ with_records (row + 1) fs

-- a fault in the query of the record of this number
abbrev pub at_record : {X : Type 0} → ℕ → Result X (ℕ × NameFault) → Result X (ℕ × NameFault)
at_record row found = result_map_both (λ x. x) (λ f. (row, f.1)) found

-- a flavor with UUIDs in place of names in its query; else the number of its record, and why a name there stands for nothing
abbrev pub flavor_with_ids : Naming → ℕ × Flavor → Result Flavor (ℕ × NameFault)
flavor_with_ids naming p = mapped (λ query. record p.1 { query = query }) (at_record p.0 (query_named naming p.1.query))

abbrev pub flavors_with_ids : Naming → List Flavor → Result (List Flavor) (ℕ × NameFault)
flavors_with_ids naming flavors = each_found (flavor_with_ids naming) (with_records 2 flavors)

-- the columns of a table of flavors, and the row of one
abbrev pub flavor_columns : List (List ℕ)
flavor_columns = codes "flavor" ∷ codes "query" ∷ codes "wanted" ∷ []

abbrev pub flavor_row : Flavor → List (List ℕ)
flavor_row f = f.name ∷ f.query ∷ decimal f.wanted ∷ []

-- the table of flavors, as `csv` writes it
unfoldable pub flavors_text : List Flavor → List ℕ
flavors_text flavors = flat_map (row_text default_writer) (flavor_columns ∷ map flavor_row flavors)

-- a table of flavors with UUIDs in place of names in their queries; one that is refused stays
unfoldable pub table_with_ids : Naming → List ℕ → Result (List ℕ) (ℕ × NameFault)
table_with_ids naming text =
    if nat_lt most_bytes (length text) || is_some (flavors_fault (records_of text)) then Ok text
    else mapped flavors_text (flavors_with_ids naming (flavors_said (records_of text)))
