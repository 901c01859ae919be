use Rattle.std.proofs.Common.{◌≡◌, ◌+◌, map, sum_by}
use Rattle.ac_query.specs.Laws.Gathered.{of_suffix}
use Rattle.ac_query.specs.Faults.{entry_count}
use Rattle.ac_query.specs.Shown.Draft.{entry_shown, suffixed_shown}
use Rattle.ac_query.proofs.reading.check.has_too_many_entries.Given as goal

abbrev pub invariant-loop-group : goal.invariant-loop-group
invariant-loop-group l = l.count + sum_by entry_count (map of_suffix (map entry_shown l.group-iterator)) ≡ l.entries + sum_by entry_count (suffixed_shown l.groups)
