use Rattle.ac_tables.proofs.Common.{◌≡◌, ◌+◌, ◌-◌, ◌*◌, ◌<◌, ◌≤◌}
use Rattle.std.proofs.Common.{vec_len}
use Rattle.std.specs.Io.KnownBytes.{Consumes}
use Rattle.ac_base.specs.Devices.{last_count}
use Rattle.ac_tables.specs.Drain.{most_bytes}
use Rattle.ac_tables.proofs.table_bytes.drain.Given as goal

-- the bytes so far were the first of the feed, and its failures do not fall
abbrev pub invariant-loop-bytes : goal.invariant-loop-bytes
invariant-loop-bytes g l =
    record {
      consumed : Consumes (g.R.Feed.remaining l.fn.feed) (g.R.Feed.remaining l.feed) l.bytes.items;
      failures : g.R.Feed.failures l.fn.feed ≤ g.R.Feed.failures l.feed;
      limit : vec_len l.bytes ≤ most_bytes;
      again : l.again ≤ 1000;
      unbroken : g.R.Feed.breaks l.feed ≡ g.R.Feed.breaks l.fn.feed;
      interrupted : g.R.Feed.failures l.feed < last_count → g.R.Feed.failures l.fn.feed + l.again ≤ g.R.Feed.failures l.feed;
    }

-- each byte buys 1000 interrupted calls
abbrev pub decreases-loop-bytes : goal.decreases-loop-bytes
decreases-loop-bytes g l = (most_bytes - vec_len l.bytes) * 1001 + (1000 - l.again)
