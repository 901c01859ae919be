use Rattle.std.proofs.Common.{◌≡◌, filter, map, take}
use Rattle.std.specs.Ordering.{is_lt}
use Rattle.ac_base.specs.Names.{trait_bytes}
use Rattle.ac_base.specs.Texts.{text_cmp}
use Rattle.ac_change.proofs.draft.members.names_before.Given as goal

abbrev pub invariant-loop-other : goal.invariant-loop-other
invariant-loop-other l = map trait_bytes l.new.items ≡ filter (λ y. is_lt (text_cmp y (trait_bytes l.name))) (map trait_bytes (take l.other-index l.names))
