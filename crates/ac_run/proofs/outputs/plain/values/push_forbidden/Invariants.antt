use Rattle.std.proofs.Common.{◌≡◌, ◌++◌, drop, map}
use Rattle.std.specs.String.{string_bytes}
use Rattle.ac_base.specs.Names.{trait_bytes}
use Rattle.ac_run.specs.Outputs.Plain.{forbidden_text}
use Rattle.ac_run.proofs.outputs.plain.values.push_forbidden.Given as goal

abbrev pub invariant-loop-name : goal.invariant-loop-name
invariant-loop-name l =
    map string_bytes l.texts.items ++ map forbidden_text (map trait_bytes (drop l.name-index l.traits))
    ≡ map string_bytes l.fn.texts.items ++ map forbidden_text (map trait_bytes l.traits)
