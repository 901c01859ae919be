use Rattle.std.proofs.Common.{◌≡◌, ◌++◌, drop, map}
use Rattle.std.specs.List.{flat_map}
use Rattle.ac_run.specs.Capacity.{metric_text, metrics_text}
use Rattle.ac_run.specs.Rooms.{room_shown}
use Rattle.ac_run.proofs.capacity.metrics.metrics_text.Given as goal

abbrev pub invariant-loop-metric : goal.invariant-loop-metric
invariant-loop-metric l =
    l.text.items ++ flat_map (metric_text (map room_shown l.rooms)) (drop l.metric-index l.metric-items) ≡ metrics_text (map room_shown l.rooms)
