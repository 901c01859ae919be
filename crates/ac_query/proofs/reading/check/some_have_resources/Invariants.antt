use Rattle.std.proofs.Common.{◌≡◌, map}
use Rattle.std.specs.List.{list_any}
use Rattle.ac_query.specs.Laws.Gathered.{of_suffix}
use Rattle.ac_query.specs.Faults.{has_resources}
use Rattle.ac_query.specs.Shown.Draft.{entry_shown, suffixed_shown}
use Rattle.ac_query.proofs.reading.check.some_have_resources.Given as goal

abbrev pub invariant-loop-group : goal.invariant-loop-group
invariant-loop-group l = list_any has_resources (map of_suffix (map entry_shown l.group-iterator)) ≡ list_any has_resources (suffixed_shown l.groups)
