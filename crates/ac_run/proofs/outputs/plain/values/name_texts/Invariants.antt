use Rattle.std.proofs.Common.{◌≡◌, ◌++◌, drop, map}
use Rattle.std.specs.String.{string_bytes}
use Rattle.ac_base.specs.Names.{trait_bytes}
use Rattle.ac_run.proofs.outputs.plain.values.name_texts.Given as goal

abbrev pub invariant-loop-name : goal.invariant-loop-name
invariant-loop-name l = map string_bytes l.texts.items ++ map trait_bytes (drop l.name-index l.traits) ≡ map trait_bytes l.traits
