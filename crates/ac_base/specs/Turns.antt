-- What is known of the devices over memory beside what every device tells.
use Rattle.std.specs.Prelude.{ℕ, ◌-◌, List, vec_len}
use Rattle.ac_base.specs.declared.memory.Turn.{Turn}
use Rattle.ac_base.specs.declared.device.mem_feed.MemFeed.{MemFeed}
use Rattle.ac_base.specs.declared.device.mem_sink.MemSink.{MemSink}

-- the turns that a feed still follows
abbrev pub feed_turns : MemFeed → List Turn
feed_turns f = f.turns.now

-- the bytes that a feed still gives
abbrev pub feed_bytes : MemFeed → List ℕ
feed_bytes f = f.bytes.now

-- the turns that a sink still follows
abbrev pub sink_turns : MemSink → List Turn
sink_turns s = s.turns.now

-- how many more bytes a sink has room for
abbrev pub sink_room : MemSink → ℕ
sink_room s = vec_len s.room - s.used
