use Rattle.std.proofs.Common.{◌≡◌, take}
use Rattle.std.specs.String.{string_bytes}
use Rattle.ac_query.specs.Tokens.{ids_text}
use Rattle.ac_query.proofs.write.write_ids.Given as goal

abbrev pub invariant-loop-place : goal.invariant-loop-place
invariant-loop-place l = string_bytes l.text ≡ ids_text (take l.place l.ids)
