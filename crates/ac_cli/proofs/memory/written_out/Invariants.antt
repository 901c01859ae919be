use Rattle.std.proofs.Common.{◌≡◌, ◌++◌, drop, map}
use Rattle.std.specs.String.{string_bytes}
use Rattle.ac_cli.specs.InMemory.{words_shown}
use Rattle.ac_cli.proofs.memory.written_out.Given as goal

abbrev pub invariant-loop-word : goal.invariant-loop-word
invariant-loop-word l = map string_bytes l.texts.items ++ words_shown (drop l.word-index l.words) ≡ words_shown l.words
