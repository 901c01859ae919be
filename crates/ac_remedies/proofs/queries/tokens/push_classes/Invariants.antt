use Rattle.std.proofs.Common.{◌≡◌, ◌++◌, map, take}
use Rattle.std.specs.List.{flat_map}
use Rattle.ac_query.specs.Shown.Groups.{need_entry}
use Rattle.ac_remedies.specs.Queries.Slots.{class_text}
use Rattle.ac_remedies.proofs.queries.tokens.push_classes.Given as goal

abbrev pub invariant-loop-need : goal.invariant-loop-need
invariant-loop-need l = l.text.items ≡ l.fn.text.items ++ flat_map class_text (map need_entry (take l.need-index l.needs))
