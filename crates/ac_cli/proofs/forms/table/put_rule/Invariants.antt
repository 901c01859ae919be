use Rattle.std.proofs.Common.{◌≡◌, ◌++◌, ◌∷◌, take}
use Rattle.std.specs.List.{flat_map}
use Rattle.ac_cli.specs.Forms.Tables.{rule_cell}
use Rattle.ac_cli.proofs.forms.table.put_rule.Given as goal

abbrev pub invariant-loop-width : goal.invariant-loop-width
invariant-loop-width l = l.text.items ≡ l.fn.text.items ++ (43 ∷ flat_map rule_cell (take l.width-index l.widths))
