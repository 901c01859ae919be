use Rattle.std.proofs.Common.{◌≡◌, map}
use Rattle.std.specs.Prelude.{drop}
use Rattle.ac_base.specs.Names.{class_bytes}
use Rattle.ac_query.specs.Asked.{Slot}
use Rattle.ac_query.specs.Shown.Groups.{need_entry}
use Rattle.ac_query.specs.Shown.Queries.{asked_of}
use Rattle.ac_rules.specs.Placed.{slot_at}
use Rattle.ac_rules.specs.Shown.Classes.{with_classes}
use Rattle.ac_fill.specs.Found.{wants_of}
use Rattle.ac_fill.proofs.bound.push_classes.Given as goal

abbrev pub invariant-loop-need : goal.invariant-loop-need
invariant-loop-need l =
    let slot : Slot = slot_at (asked_of l.query) l.s in
    with_classes (map (λ c. class_bytes c.now) l.classes.items) (map (λ want. want.need) (wants_of slot (map need_entry (drop l.need-index l.need-items))))
    ≡ with_classes (map (λ c. class_bytes c.now) l.fn.classes.items) (map (λ want. want.need) (wants_of slot (map need_entry l.need-items)))
