use Rattle.std.proofs.Common.{◌≡◌, ◌-◌, ◌≤◌, Contains, length}
use Rattle.std.specs.Io.KnownBytes.{Keeps}
use Rattle.std.specs.List.{position_or_len}
use Rattle.ac_session.specs.Lines.{is_newline, newline}
use Rattle.ac_session.specs.Reading.{feed_in, in_room, left}
use Rattle.ac_session.proofs.lines.Lines.find_newline.Given as goal

-- no newline stands where it was searched for
abbrev pub invariant-searching : goal.invariant-searching
invariant-searching g l =
    record {
      searched : l.searched ≤ position_or_len is_newline (in_room l.self);
      left : Keeps (left g.R.Feed.remaining l.fn.self) (left g.R.Feed.remaining l.self);
      feed : Contains (in_room l.fn.self) newline → feed_in l.self ≡ feed_in l.fn.self;
      room : Contains (in_room l.fn.self) newline → in_room l.self ≡ in_room l.fn.self;
      failures : g.R.Feed.failures (feed_in l.fn.self) ≤ g.R.Feed.failures (feed_in l.self);
      unbroken : g.R.Feed.breaks (feed_in l.self) ≡ g.R.Feed.breaks (feed_in l.fn.self);
    }

abbrev pub decreases-searching : goal.decreases-searching
decreases-searching g l = 131073 - length (in_room l.self)
