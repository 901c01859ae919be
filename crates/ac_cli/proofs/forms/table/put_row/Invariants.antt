use Rattle.std.proofs.Common.{◌≡◌, ◌++◌, ◌-◌, ◌∷◌, length, map, string_bytes}
use Rattle.std.specs.List.{flat_map, range_with_len}
use Rattle.ac_cli.specs.Forms.Tables.{cell_at}
use Rattle.ac_cli.proofs.forms.table.put_row.Given as goal

-- the cells so far, and those still to come
abbrev pub invariant-loop-i : goal.invariant-loop-i
invariant-loop-i l =
    let cells = flat_map (cell_at l.widths (map string_bytes l.row)) in
    l.text.items ++ cells (range_with_len l.i (length l.widths - l.i)) ≡ l.fn.text.items ++ (124 ∷ cells (range_with_len 0 (length l.widths)))
