-- The records of a text of rows that `csv` writes.
use Rattle.std.proofs.Common.{◌≡◌, ◌∙◌, ℕ, List, [], ◌∷◌, Some, ap, map, refl, sym}
use Rattle.std.specs.List.{flat_map}
use Rattle.csv.proofs.RoundTrip.{read-write}
use Rattle.csv.specs.Machine.{next_record}
use Rattle.csv.specs.Reading.{strip_bom}
use Rattle.csv.specs.Writing.{default_writer, read_back, row_text}
use Rattle.csv.specs.declared.parser.State.TheVariants as st
use Rattle.ac_tables.proofs.Gathered.RowsLeft.{rows_more, rows_none, rows_start}
use Rattle.ac_tables.specs.Tables.Checks.{Row}
use Rattle.ac_tables.specs.Tables.Rows.{records_of, rows_from}

abbrev pub written : List Row → List ℕ
written rows = flat_map (row_text default_writer) rows

-- these rows are left of their text at its start
all_left : (rows : List Row) → rows_from st.StartRecord (Some (written rows)) ≡ map read_back rows
unfolding next_record
all_left [] = rows_none st.StartRecord [] refl
all_left (row ∷ rows) =
    rows_more st.StartRecord (written (row ∷ rows)) (read_back row, st.StartRecord, written rows) refl (read-write row (written rows))
    ∙ ap (λ (t : List Row). read_back row ∷ t) (all_left rows)

-- they are the records of their text, where that begins with no byte order mark
pub written_read : (rows : List Row) → strip_bom (written rows) ≡ written rows → records_of (written rows) ≡ map read_back rows
written_read rows plain = sym (rows_start (written rows)) ∙ ap (λ (t : List ℕ). rows_from st.StartRecord (Some t)) plain ∙ all_left rows
