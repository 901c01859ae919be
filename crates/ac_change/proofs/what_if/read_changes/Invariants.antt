use Rattle.std.proofs.Common.{◌≡◌, ◌++◌, ◌+◌, drop, map}
use Rattle.ac_change.specs.Lines.{changes_fault, changes_said, fault_from, said_from}
use Rattle.ac_change.specs.Shown.{line_shown}
use Rattle.ac_change.proofs.what_if.read_changes.Given as goal

abbrev pub invariant-loop-ix : goal.invariant-loop-ix
invariant-loop-ix l =
    record {
      said : map line_shown l.changes.items ++ said_from (l.ix + 1) (drop l.ix (map (λ t. t.now) l.lines.items)) ≡ changes_said l.text;
      fine : fault_from (l.ix + 1) (drop l.ix (map (λ t. t.now) l.lines.items)) ≡ changes_fault l.text;
    }
