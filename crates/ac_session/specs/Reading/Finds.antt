-- What was found first in the bytes that are left.
use Rattle.std.specs.Prelude.{ℕ, ◌≤◌, ⊤, List, length, take, Option, Some, None, Result, Ok, Err}
use Rattle.ac_session.specs.Lines.{Given, line, too_long, end, without_return}
use Rattle.ac_session.specs.declared.lines.Found.{Found}
use Rattle.ac_session.specs.declared.lines.Found.TheVariants as found
use Rattle.ac_session.specs.declared.lines.GivenUp.{GivenUp}

-- what it gives, by the bytes that were taken last
abbrev pub given_of : Result Found GivenUp → List ℕ → Option Given
given_of (Ok (found.Line count)) taken = Some (line (without_return (take count taken)))
given_of (Ok found.TooLong) taken = Some too_long
given_of (Ok found.End) taken = Some end
given_of (Err e) taken = None

-- a line stands in the bytes that were taken last
abbrev pub IsTaken : List ℕ → Found → Type 0
IsTaken taken (found.Line count) = count ≤ length taken
IsTaken taken found.TooLong = ⊤
IsTaken taken found.End = ⊤
