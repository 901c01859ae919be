-- What a session answers, and what is known where it ended.
use Rattle.std.specs.Prelude.{ℕ, List, ◌++◌, Option, codes}
use Rattle.std.specs.Option.{option_and_then}
use Rattle.ac_base.specs.Writing.{TakesLine}
use Rattle.ac_cloud.specs.World.{World}
use Rattle.ac_run.specs.Answer.{Outcome, past_tables, refused, told, written}
use Rattle.ac_run.specs.Details.{behind, names_remedy}
use Rattle.ac_run.specs.Feeds.{Bytes}
use Rattle.ac_run.specs.Lines.{names_line}
use Rattle.ac_run.specs.Naming.{names_refused}
use Rattle.ac_run.specs.Refusals.{status_of_names}
use Rattle.ac_run.specs.Tasks.{Paths}
use Rattle.ac_session.specs.Held.{unnamed}
use Rattle.ac_session.specs.Tries.{text_with}
use Rattle.ac_session.specs.Turns.{lines_in, session_text}
use Rattle.ac_session.specs.Turns.Named.{Terms}

-- the answer of a session to a text of questions, in the world in which it begins
abbrev pub held : Terms → World → List ℕ → Outcome
held terms world questions = written (session_text terms (unnamed world) (lines_in questions)) 0

-- what is said, unless the table of names of aggregates is refused, where there is one
abbrev pub past_called : Option Paths → Option (List ℕ) → Outcome → Outcome
past_called detail names o =
    told (option_and_then names_refused names) (λ why. refused (names_line why ++ behind detail (λ _. names_remedy why)) (status_of_names why)) o

-- the answer of a session over the bytes of five tables, and what changes leave of them
unfoldable pub session_answer : Option Paths → Option (List ℕ) → Terms → Bytes → List ℕ → Outcome
session_answer detail changes terms b questions = past_tables detail changes b (λ world. past_called detail terms.names (held terms world questions))

-- the same, where the searches of some lines stopped
abbrev pub held_with : Terms → World → List (Option (List ℕ)) → List ℕ → Outcome
held_with terms world stops questions = written (text_with terms (unnamed world) stops (lines_in questions)) 0

unfoldable pub session_answer_with : Option Paths → Option (List ℕ) → Terms → Bytes → List (Option (List ℕ)) → List ℕ → Outcome
session_answer_with detail changes terms b stops questions =
    past_tables detail changes b (λ world. past_called detail terms.names (held_with terms world stops questions))

-- why the questions can't be had
unfoldable pub questions_line : List ℕ
questions_line = codes "questions: Unreadable\n"

-- The feed of the questions failed, which the line says.
pub record AreUnread (rose : Type 0) (err_old err_new : Option (List ℕ)) (before after : ℕ) : Type 0 where
  pub rises : rose
  pub line : TakesLine err_old err_new before after questions_line
