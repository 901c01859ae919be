use Rattle.std.proofs.Common.{◌≤◌, length}
use Rattle.ac_prune.specs.Ahead.Fronts.{LeadNowhere}
use Rattle.ac_prune.proofs.lookout.LookoutLookAhead.next.Given as goal

abbrev pub invariant-loop-test : goal.invariant-loop-test
invariant-loop-test l = record {
  from : l.from ≤ l.place;
  within : l.place ≤ length l.front.choices.now;
  dead : LeadNowhere l.front l.from l.place;
}
