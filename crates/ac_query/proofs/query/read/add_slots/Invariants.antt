use Rattle.std.proofs.Common.{◌≡◌, ℕ, List, Option, Some, map}
use Rattle.std.specs.List.{slice_get}
use Rattle.ac_query.specs.Asked.{Group}
use Rattle.ac_query.specs.Shown.Groups.{group_entry}
use Rattle.ac_query.specs.Shown.Slots.{slot_shown}
use Rattle.ac_query.proofs.Slots.{with_classes}
use Rattle.ac_query.proofs.query.read.add_slots.Given as goal

abbrev pub invariant-loop-class : goal.invariant-loop-class
invariant-loop-class l =
    (all : List (Option (List ℕ) × Group)) → slice_get all l.place ≡ Some (group_entry l.group)
    → map (slot_shown all) l.slots.items ≡ with_classes all l.place (map (slot_shown all) l.fn.slots.items) (group_entry l.group) l.class
