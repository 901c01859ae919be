use Rattle.std.proofs.Common.{◌≡◌, ◌++◌, replicate}
use Rattle.ac_cli.proofs.forms.table.put_times.Given as goal

abbrev pub invariant-loop-turn : goal.invariant-loop-turn
invariant-loop-turn l = l.text.items ≡ l.fn.text.items ++ replicate l._turn l.byte
