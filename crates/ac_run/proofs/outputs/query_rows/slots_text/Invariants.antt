use Rattle.std.proofs.Common.{◌≡◌, ◌+◌, ◌++◌, ◌∷◌, drop}
use Rattle.ac_base.specs.Writing.Rows.{HasRows}
use Rattle.ac_query.specs.Asked.{slots_of}
use Rattle.ac_query.specs.Shown.Queries.{asked_of}
use Rattle.ac_run.specs.Outputs.QueryRows.{query_columns, slot_rows}
use Rattle.ac_run.proofs.outputs.query_rows.slots_text.Given as goal

abbrev pub invariant-loop-s : goal.invariant-loop-s
invariant-loop-s l =
    (written : _) × HasRows l.rows written
    × (written ++ slot_rows (l.s + 1) (drop l.s (slots_of (asked_of l.query))) ≡ query_columns ∷ slot_rows 1 (slots_of (asked_of l.query)))
