use Rattle.std.proofs.Common.{◌≡◌, map, take}
use Rattle.std.specs.List.{flat_map}
use Rattle.ac_query.specs.Shown.Groups.{group_entry}
use Rattle.ac_remedies.specs.Queries.Slots.{group_text}
use Rattle.ac_remedies.proofs.queries.tokens.slots_text.Given as goal

abbrev pub invariant-loop-group : goal.invariant-loop-group
invariant-loop-group l = l.text.items ≡ flat_map group_text (map group_entry (take l.group-index l.group-items))
