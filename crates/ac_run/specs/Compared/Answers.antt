-- What a read answer shows.
use Rattle.std.specs.Prelude.{ℕ, List, map, string_bytes}
use Rattle.ac_run.specs.declared.outputs.compared.ServiceAnswer.{ServiceAnswer}

-- its texts, in the answer's order
abbrev pub texts_in : ServiceAnswer → List (List ℕ)
texts_in answer = map string_bytes answer.texts.items
