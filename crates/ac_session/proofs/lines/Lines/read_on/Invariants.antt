use Rattle.std.proofs.Common.{◌≡◌, ◌+◌, ◌<◌, ◌≤◌}
use Rattle.std.specs.Io.KnownBytes.{Keeps}
use Rattle.ac_base.specs.Devices.{last_count}
use Rattle.ac_session.specs.Reading.{feed_in, in_room, left}
use Rattle.ac_session.proofs.lines.Lines.read_on.Given as goal

-- every call so far was interrupted
abbrev pub invariant-asking : goal.invariant-asking
invariant-asking g l =
    record {
      room : in_room l.self ≡ in_room l.fn.self;
      left : Keeps (left g.R.Feed.remaining l.fn.self) (left g.R.Feed.remaining l.self);
      failures : g.R.Feed.failures (feed_in l.fn.self) ≤ g.R.Feed.failures (feed_in l.self);
      unbroken : g.R.Feed.breaks (feed_in l.self) ≡ g.R.Feed.breaks (feed_in l.fn.self);
      interrupted : g.R.Feed.failures (feed_in l.self) < last_count → g.R.Feed.failures (feed_in l.fn.self) + l.counter ≤ g.R.Feed.failures (feed_in l.self);
    }
