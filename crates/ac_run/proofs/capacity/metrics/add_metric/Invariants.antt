use Rattle.std.proofs.Common.{◌≡◌, ◌++◌, drop, map}
use Rattle.std.specs.List.{flat_map}
use Rattle.ac_run.specs.Capacity.{metric_line, metric_text}
use Rattle.ac_run.specs.Rooms.{room_shown}
use Rattle.ac_run.proofs.capacity.metrics.add_metric.Given as goal

abbrev pub invariant-loop-room : goal.invariant-loop-room
invariant-loop-room l =
    l.text.items ++ flat_map (metric_line l.metric) (map room_shown (drop l.room-index l.rooms)) ≡ l.fn.text.items ++ metric_text (map room_shown l.rooms) l.metric
