use Rattle.std.proofs.Common.{◌≡◌, ◌++◌, drop, map}
use Rattle.ac_fill.specs.Found.{short_entry}
use Rattle.ac_run.proofs.capacity.shorts_told.Given as goal

abbrev pub invariant-loop-short : goal.invariant-loop-short
invariant-loop-short l = map (λ s. (s.0.items, s.1)) l.told.items ++ map short_entry (drop l.short-index l.shorts) ≡ map short_entry l.shorts
