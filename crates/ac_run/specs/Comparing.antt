-- Why an answer of the service can't be compared.
use Rattle.std.specs.Prelude.{ℕ, nat_lt, List, length, Option, Some, None, if◌then◌else◌}
use Rattle.ac_run.specs.Compared.{answer_read}
use Rattle.ac_run.specs.declared.refusal.AnswerRefusal.{AnswerRefusal}
use Rattle.ac_run.specs.declared.refusal.AnswerRefusal.TheVariants as why
use Rattle.ac_tables.specs.Drain.{most_bytes}

-- texts of requests, or none where the answer is no answer of the service
abbrev pub unread : Option (List (List ℕ)) → Option AnswerRefusal
unread None = Some why.BadAnswer
unread (Some texts) = None

-- An answer is refused for its size, or where it is none of the service.
abbrev pub answer_refused : List ℕ → Option AnswerRefusal
answer_refused bytes = if nat_lt most_bytes (length bytes) then Some why.TooLarge else unread (answer_read bytes)
