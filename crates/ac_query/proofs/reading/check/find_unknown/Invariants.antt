use Rattle.std.proofs.Common.{◌≡◌, map}
use Rattle.ac_base.specs.Names.{suffix_bytes}
use Rattle.ac_query.specs.Faults.{first_fault, suffix_condition}
use Rattle.ac_query.specs.Shown.{suffixes_shown}
use Rattle.ac_query.specs.Shown.Draft.{suffixed_shown}
use Rattle.ac_query.proofs.reading.check.find_unknown.Given as goal

abbrev pub invariant-loop-suffix : goal.invariant-loop-suffix
invariant-loop-suffix l = first_fault (map (suffix_condition (suffixed_shown l.groups)) (map suffix_bytes l.suffix-iterator)) ≡ first_fault (map (suffix_condition (suffixed_shown l.groups)) (suffixes_shown l.listed))
