use Rattle.std.proofs.Common.{◌≡◌, ◌++◌, length}
use Rattle.ac_tables.specs.Tables.Rows.{IsReading, records_of, rows_left}
use Rattle.ac_cli.specs.Forms.{cell_texts, texts_shown}
use Rattle.ac_cli.proofs.forms.read_texts.Given as goal

-- the rows so far, and those that are left
abbrev pub invariant-loop-rows : goal.invariant-loop-rows
invariant-loop-rows l =
    record {
      reading : IsReading l.reader;
      rows : texts_shown l.rows.items ++ cell_texts (rows_left l.reader) ≡ cell_texts (records_of l.text);
    }

abbrev pub decreases-loop-rows : goal.decreases-loop-rows
decreases-loop-rows l = length (rows_left l.reader)
