use Rattle.std.proofs.Common.{◌≡◌, ◌<◌, ◌≤◌, ℕ, List, Some, length}
use Rattle.ac_session.specs.Lines.{most_passed}
use Rattle.ac_session.specs.Reading.{feed_in, left}
use Rattle.ac_session.specs.Standing.{Stands}
use Rattle.ac_session.specs.Held.{held_of}
use Rattle.ac_session.specs.Turns.Named.{Knows, terms_of}
use Rattle.ac_session.proofs.session.answer_lines.Given as goal

-- so many turns were taken
abbrev pub invariant-turns : goal.invariant-turns
invariant-turns g l =
    record {
      known : Knows l.terms (held_of l.held).world;
      stands : (q : List ℕ) → left g.Q.Feed.remaining l.fn.lines ≡ Some q → length q < most_passed
          → Stands l.terms.tries (terms_of l.terms) (held_of l.fn.held) q (g.W.Sink.taken l.fn.out) (held_of l.held) (left g.Q.Feed.remaining l.lines) (g.W.Sink.taken l.out) l.counter;
      asked : g.Q.Feed.failures (feed_in l.fn.lines) ≤ g.Q.Feed.failures (feed_in l.lines);
      failures : g.W.Sink.failures l.fn.out ≤ g.W.Sink.failures l.out;
    }
