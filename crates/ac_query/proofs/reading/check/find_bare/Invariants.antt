use Rattle.std.proofs.Common.{◌≡◌, map}
use Rattle.ac_query.specs.Laws.Gathered.{of_suffix}
use Rattle.ac_query.specs.Faults.{first_fault, group_condition}
use Rattle.ac_query.specs.Shown.{suffixes_shown}
use Rattle.ac_query.specs.Shown.Draft.{entry_shown, suffixed_shown}
use Rattle.ac_query.proofs.reading.check.find_bare.Given as goal

abbrev pub invariant-loop-suffix : goal.invariant-loop-suffix
invariant-loop-suffix l = first_fault (map (group_condition (suffixes_shown l.listed)) (map of_suffix (map entry_shown l.suffix-iterator))) ≡ first_fault (map (group_condition (suffixes_shown l.listed)) (suffixed_shown l.groups))
