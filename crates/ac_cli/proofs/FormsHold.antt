-- Rows that `csv` writes are read as these rows.
use Rattle.std.proofs.Common.{◌≡◌, ◌∙◌, ◌<◌, ℕ, List, [], ◌∷◌, Some, ap, arith, length, map, refl, sym}
use Rattle.std.specs.List.{AllByRecursion}
use Rattle.csv.proofs.RoundTrip.{read-write}
use Rattle.csv.specs.Machine.{next_record}
use Rattle.csv.specs.Writing.{read_back}
use Rattle.csv.specs.declared.parser.State.TheVariants as st
use Rattle.ac_tables.proofs.Gathered.RowsLeft.{rows_more, rows_none, rows_start}
use Rattle.ac_tables.specs.Tables.Rows.{records_of, rows_from}
use Rattle.ac_cli.specs.Forms.{cell_texts}
use Rattle.ac_cli.specs.Forms.Json.{json_text}
use Rattle.ac_cli.specs.Forms.Tables.{table_text}
use Rattle.ac_cli.specs.Laws.{AreWritten, FormsHoldCells, csv_text}

abbrev Row : Type 0
Row = List (List ℕ)

read_all : (rows : List Row) → rows_from st.StartRecord (Some (csv_text rows)) ≡ map read_back rows
unfolding next_record
read_all [] = rows_none st.StartRecord [] refl
read_all (row ∷ rows) =
    rows_more st.StartRecord (csv_text (row ∷ rows)) (read_back row, st.StartRecord, csv_text rows) refl (read-write row (csv_text rows))
    ∙ ap (λ (t : List Row). read_back row ∷ t) (read_all rows)

-- a row with a cell is read as it is
whole : (rows : List Row) → AllByRecursion (λ row. 0 < length row) rows → map read_back rows ≡ rows
whole [] some = refl
whole ([] ∷ rows) some = absurd (omega (arith, some.0))
whole ((cell ∷ cells) ∷ rows) some = ap (λ (t : List Row). (cell ∷ cells) ∷ t) (whole rows some.1)

written : (rows : List Row) → AreWritten rows → records_of (csv_text rows) ≡ rows
written rows are =
    sym (rows_start (csv_text rows)) ∙ ap (λ (t : List ℕ). rows_from st.StartRecord (Some t)) are.plain ∙ read_all rows ∙ whole rows are.cells

pub forms_hold_cells : FormsHoldCells
forms_hold_cells = record {
  table = λ rows are. ap (λ (r : List Row). table_text (cell_texts r)) (written rows are);
  json = λ rows are. ap (λ (r : List Row). json_text (cell_texts r)) (written rows are);
}
