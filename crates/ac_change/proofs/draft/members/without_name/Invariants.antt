use Rattle.std.proofs.Common.{◌≡◌, filter, is_eq, map, not, take}
use Rattle.ac_base.specs.Names.{trait_bytes}
use Rattle.ac_base.specs.Texts.{text_cmp}
use Rattle.ac_change.proofs.draft.members.without_name.Given as goal

abbrev pub invariant-loop-other : goal.invariant-loop-other
invariant-loop-other l = map trait_bytes l.new.items ≡ filter (λ y. not (is_eq (text_cmp y (trait_bytes l.name)))) (map trait_bytes (take l.other-index l.names))
