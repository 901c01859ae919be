-- What a reader of lines still has, and what a call gives and does.
pub mod Finds
use Rattle.std.specs.Prelude.{◌≡◌, ◌≢◌, ℕ, ◌<◌, ◌≤◌, List, length, Option, Some, None, Contains, IfSome}
use Rattle.std.specs.Io.KnownBytes.{prepend_known}
use Rattle.ac_base.specs.Devices.{IsGivenUp, Rises}
use Rattle.ac_session.specs.Lines.{Given, line, too_long, end, behind_line, first_line, most_bytes, most_passed, newline}
use Rattle.ac_session.specs.Rooms.{held}
use Rattle.ac_session.specs.declared.lines.Lines.{Lines}
use Rattle.ac_session.specs.declared.lines.Next.{Next}
use Rattle.ac_session.specs.declared.lines.Next.TheVariants as next

-- its feed
abbrev pub feed_in : {R : Type 0} → Lines R → R
feed_in lines = lines.feed

-- the bytes in its room: they came from the feed, and stand in no line that was given
abbrev pub in_room : {R : Type 0} → Lines R → List ℕ
in_room lines = held lines.room

-- the bytes that are left, where they are known: those in its room, and then those that the feed still gives
abbrev pub left : {R : Type 0} → (R → Option (List ℕ)) → Lines R → Option (List ℕ)
left remaining lines = prepend_known (in_room lines) (remaining (feed_in lines))

-- what an answer gives; a failure gives nothing
abbrev pub given_by : Next → Option Given
given_by (next.Line bytes) = Some (line bytes.now)
given_by next.TooLong = Some too_long
given_by next.End = Some end
given_by next.Failed = None

-- what a call does, by what its answer gives
pub record GoesOn {R : Type 0} (remaining : R → Option (List ℕ)) (failed broke : R → ℕ) (old : Lines R) (given : Option Given) (new : Lines R) : Type 0 where
  -- a line and its newline are gone (a part of the line, if it has 18446744073709551615 bytes or more)
  pub behind : given ≢ None → IfSome (left remaining old) (λ bytes. length (first_line bytes) < most_passed → left remaining new ≡ Some (behind_line bytes))
  -- a failure loses no byte of a line that isn't too long
  pub kept : given ≡ None → IfSome (left remaining old) (λ bytes. length (first_line bytes) ≤ most_bytes → left remaining new ≡ Some bytes)
  -- the feed isn't asked where a whole line is in the room
  pub unasked : Contains (in_room old) newline → feed_in new ≡ feed_in old
  pub failures : failed (feed_in old) ≤ failed (feed_in new)
  pub unbroken : given ≢ None → broke (feed_in new) ≡ broke (feed_in old)
  pub rises : given ≡ None → Rises (failed (feed_in old)) (failed (feed_in new))
  pub given_up : given ≡ None → IsGivenUp (broke (feed_in old)) (broke (feed_in new)) (failed (feed_in old)) (failed (feed_in new))
