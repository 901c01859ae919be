use Rattle.std.proofs.Common.{◌≡◌, drop}
use Rattle.std.specs.Prelude.{find}
use Rattle.std.specs.Str.{bytes_eq}
use Rattle.ac_cli.specs.InMemory.{files_shown}
use Rattle.ac_cli.proofs.memory.find_file.Given as goal

abbrev pub invariant-loop-file : goal.invariant-loop-file
invariant-loop-file l = find (λ f. bytes_eq f.0 l.path) (files_shown (drop l.file-index l.files)) ≡ find (λ f. bytes_eq f.0 l.path) (files_shown l.files)
