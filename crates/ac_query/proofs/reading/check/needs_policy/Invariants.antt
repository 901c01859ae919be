use Rattle.std.proofs.Common.{◌≡◌, ◌+◌, map, length, if◌then◌else◌}
use Rattle.std.specs.Prelude.{filter}
use Rattle.ac_query.specs.Laws.Gathered.{of_suffix}
use Rattle.ac_query.specs.Faults.{needs_policy}
use Rattle.ac_query.specs.Shown.Draft.{entry_shown, suffixed_shown}
use Rattle.ac_query.proofs.reading.check.needs_policy.Given as goal

abbrev pub invariant-loop-group : goal.invariant-loop-group
invariant-loop-group l = (if l.found then 1 else 0) + length (filter needs_policy (map of_suffix (map entry_shown l.group-iterator))) ≡ length (filter needs_policy (suffixed_shown l.groups))
