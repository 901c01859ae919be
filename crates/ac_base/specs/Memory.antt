-- What devices over memory answer, turn by turn.
use Rattle.std.specs.Prelude.{ℕ, ◌==◌, ◌&&◌, nat_lt, if◌then◌else◌, List, [], ◌∷◌, min, max}
use Rattle.ac_base.specs.declared.device.Pull.{Pull}
use Rattle.ac_base.specs.declared.device.Pull.TheVariants as pull
use Rattle.ac_base.specs.declared.device.Push.{Push}
use Rattle.ac_base.specs.declared.device.Push.TheVariants as push
use Rattle.ac_base.specs.declared.memory.Turn.{Turn}
use Rattle.ac_base.specs.declared.memory.Turn.TheVariants as turn

-- the turn of the next call: without a limit where none is left
abbrev pub next_turn : List Turn → Turn
next_turn [] = turn.Up 18446744073709551615
next_turn (t ∷ ts) = t

-- the turns after the next call
abbrev pub later_turns : List Turn → List Turn
later_turns [] = []
later_turns (t ∷ ts) = ts

-- a feed's answer to a buffer of this room, with so many bytes left: at least one byte moves
abbrev pub feed_answer : Turn → ℕ → ℕ → Pull
feed_answer (turn.Up most) room left = pull.Got (min (min (max most 1) room) left)
feed_answer turn.Again room left = pull.Again
feed_answer turn.Failed room left = pull.Failed

-- a sink's answer to a piece of this length, with so much room left: a piece that finds no room at all fails
abbrev pub sink_answer : Turn → ℕ → ℕ → Push
sink_answer (turn.Up most) size room = if (room == 0) && nat_lt 0 size then push.Failed else push.Took (min (min most size) room)
sink_answer turn.Again size room = push.Again
sink_answer turn.Failed size room = push.Failed
