-- What the law says.
use Rattle.std.specs.Prelude.{◌≡◌, ◌<◌, ℕ, List, length}
use Rattle.std.specs.List.{AllByRecursion, flat_map}
use Rattle.csv.specs.Reading.{strip_bom}
use Rattle.csv.specs.Writing.{default_writer, row_text}
use Rattle.ac_cli.specs.Forms.{cell_texts, in_form}
use Rattle.ac_cli.specs.Forms.Json.{json_text}
use Rattle.ac_cli.specs.Forms.Tables.{table_text}
use Rattle.ac_words.specs.declared.form.Form.TheVariants as form

-- rows as commands write them
abbrev pub csv_text : List (List (List ℕ)) → List ℕ
csv_text = flat_map (row_text default_writer)

-- rows of which each has a cell, and whose text doesn't begin with a byte order mark
pub record AreWritten (rows : List (List (List ℕ))) : Type 0 where
  pub cells : AllByRecursion (λ row. 0 < length row) rows
  pub plain : strip_bom (csv_text rows) ≡ csv_text rows

-- In each form stand the cells of the rows that were written.
pub record FormsHoldCells : Type 0 where
  pub table : (rows : List (List (List ℕ))) → AreWritten rows → in_form form.Table (csv_text rows) ≡ table_text (cell_texts rows)
  pub json : (rows : List (List (List ℕ))) → AreWritten rows → in_form form.Json (csv_text rows) ≡ json_text (cell_texts rows)
