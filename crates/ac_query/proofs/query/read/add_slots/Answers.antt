use Rattle.std.proofs.lemmas.Grind.{common_steps}
use Rattle.std.proofs.Common.{append-nil, arith, ap, map, sym}
use Rattle.std.specs.Option.{option_map}
use Rattle.std.proofs.lemmas.List.{length-map}
use Rattle.ac_base.specs.Names.{suffix_bytes}
use Rattle.ac_query.specs.Shown.Groups.{need_entry, group_entry}
use Rattle.ac_query.specs.Shown.Slots.{slot_shown}
use Rattle.ac_query.proofs.Slots.{suffix_pushed, class_pushed, classes_all}
use Rattle.ac_query.proofs.query.read.add_slots.Goals as goal

pub returns-in_ok-push-in-Some : goal.returns-in_ok-push-in-Some
returns-in_ok-push-in-Some c = λ all is. suffix_pushed all c.args.place (group_entry c.args.group.now) _ c.args.slots.now.items _ is (ap (option_map suffix_bytes) c.in-Some.is) c.in_ok-push-in-Some.ensures.items

pub loop-class-init : goal.loop-class-init
loop-class-init c = λ all is. sym (append-nil (map (slot_shown all) c.args.slots.now.items))

pub loop-class-preserved : goal.loop-class-preserved
loop-class-preserved c = λ all is.
    class_pushed all c.args.place (map (slot_shown all) c.args.slots.now.items) (group_entry c.args.group.now) c.loop-class.slots.items _ c.loop-class.class is
    (ap (option_map suffix_bytes) c.in-None.is) (omega (arith, length-map c.args.group.now.needs.items need_entry))
    c.in_ok-push-in-None.ensures.items (c.loop-class.invariant all is)

pub returns-after-loop-class : goal.returns-after-loop-class
returns-after-loop-class c = grind (arith, common_steps, classes_all, length-map)
