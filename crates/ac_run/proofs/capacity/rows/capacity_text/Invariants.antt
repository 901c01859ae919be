use Rattle.std.proofs.Common.{◌≡◌, ◌++◌, ◌∷◌, drop, map}
use Rattle.ac_base.specs.Writing.Rows.{HasRows}
use Rattle.ac_run.specs.Capacity.{capacity_columns, capacity_row}
use Rattle.ac_run.specs.Rooms.{room_shown}
use Rattle.ac_run.proofs.capacity.rows.capacity_text.Given as goal

abbrev pub invariant-loop-room : goal.invariant-loop-room
invariant-loop-room l =
    (written : _) × HasRows l.rows written
    × (written ++ map capacity_row (map room_shown (drop l.room-index l.rooms)) ≡ capacity_columns ∷ map capacity_row (map room_shown l.rooms))
