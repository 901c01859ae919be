use Rattle.std.proofs.Common.{◌≡◌, ◌≤◌, ◌*◌}
use Rattle.std.specs.List.{sum_by}
use Rattle.std.specs.Prelude.{take}
use Rattle.ac_fill.proofs.found.total.Given as goal

abbrev pub invariant-loop-number : goal.invariant-loop-number
invariant-loop-number l = record {
  total : l.total ≡ sum_by (λ n. n) (take l.number-index l.numbers);
  small : l.total ≤ l.number-index * 18446744073709551615;
}
