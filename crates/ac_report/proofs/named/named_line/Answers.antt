use Rattle.std.proofs.Common.{◌∙◌, ◌∷◌, [], ap, append-nil}
use Rattle.std.proofs.lemmas.Result.{IfOk-weaker}
use Rattle.csv.specs.Records.{fields_of}
use Rattle.csv.specs.Writing.{default_writer, row_text}
use Rattle.ac_report.specs.Called.{named_line}
use Rattle.ac_report.proofs.named.named_line.Goals as goal

pub returns : goal.returns
unfolding named_line
returns c =
    let row = fields_of c.in_ok-row.row in
    IfOk-weaker c.end_rows.result _ _ (λ line is. is ∙ append-nil (row_text default_writer row) ∙ ap (row_text default_writer) c.in_ok-row.ensures)
    (c.end_rows.ensures (row ∷ []) (c.in_ok-write_record.ensures [] c.no_rows-rows.ensures))
