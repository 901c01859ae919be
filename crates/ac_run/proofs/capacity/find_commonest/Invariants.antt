use Rattle.std.proofs.Common.{◌≡◌, drop, map, option_map}
use Rattle.std.specs.List.{fold}
use Rattle.ac_run.specs.Capacity.{commonest, more_common}
use Rattle.ac_run.specs.Rooms.{shortage_shown}
use Rattle.ac_run.proofs.capacity.find_commonest.Given as goal

abbrev pub invariant-loop-shortage : goal.invariant-loop-shortage
invariant-loop-shortage l =
    fold more_common (option_map (λ s. shortage_shown s.now) l.found) (map shortage_shown (drop l.shortage-index l.shortages)) ≡ commonest (map shortage_shown l.shortages)
