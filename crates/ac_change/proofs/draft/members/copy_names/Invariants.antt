use Rattle.std.proofs.Common.{◌≡◌, map, take}
use Rattle.ac_base.specs.Names.{trait_bytes}
use Rattle.ac_change.proofs.draft.members.copy_names.Given as goal

abbrev pub invariant-loop-name : goal.invariant-loop-name
invariant-loop-name l = map trait_bytes l.copies.items ≡ map trait_bytes (take l.name-index l.names)
