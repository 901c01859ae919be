-- The forms in which rows are written: each is a text of the same cells.
pub mod Tables
pub mod Json
use Rattle.std.specs.Prelude.{ℕ, List, map, nat_le, string_bytes, if◌then◌else◌}
use Rattle.ac_tables.specs.Tables.Rows.{records_of}
use Rattle.std.specs.declared.alloc.Global.{Global}
use Rattle.std.specs.declared.string.String.{String}
use Rattle.std.specs.Global.{Vec}
use Rattle.std.specs.Str.Lossy.{utf8_lossy}
use Rattle.ac_run.specs.Answer.{Outcome}
use Rattle.ac_report.specs.Names.{shown_name}
use Rattle.ac_cli.specs.Forms.Json.{json_text}
use Rattle.ac_cli.specs.Forms.Tables.{table_text}
use Rattle.ac_words.specs.declared.form.Form.{Form}
use Rattle.ac_words.specs.declared.form.Form.TheVariants as form

-- the text of a cell: no byte of it moves a terminal's cursor
abbrev pub cell_text : List ℕ → List ℕ
cell_text cell = utf8_lossy (shown_name cell)

-- the texts of all cells, row by row
abbrev pub cell_texts : List (List (List ℕ)) → List (List (List ℕ))
cell_texts rows = map (map cell_text) rows

-- the rows of a text of comma-separated values, in a form
abbrev pub in_form : Form → List ℕ → List ℕ
in_form form.Csv text = text
in_form form.Table text = table_text (cell_texts (records_of text))
in_form form.Json text = json_text (cell_texts (records_of text))

-- the output of an answer, in a form; another status has no rows
abbrev pub output_in : Form → ℕ → List ℕ → List ℕ
output_in form.Csv status output = output
output_in form status output = if nat_le status 1 then in_form form output else output

-- an answer whose rows are written in a form
abbrev pub formed : Form → Outcome → Outcome
formed form o = record o { output = output_in form o.status o.output }

-- as the structs of it show
abbrev pub texts_shown : List (Vec (String Global)) → List (List (List ℕ))
texts_shown rows = map (λ row. map string_bytes row.items) rows
