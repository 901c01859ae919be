use Rattle.std.proofs.Common.{◌≡◌, map, drop}
use Rattle.ac_base.specs.Names.{class_bytes}
use Rattle.ac_query.specs.Shown.Groups.{need_entry}
use Rattle.ac_rules.specs.Shown.Classes.{with_classes}
use Rattle.ac_rules.proofs.classes.with_classes.Given as goal

abbrev pub invariant-loop-need : goal.invariant-loop-need
invariant-loop-need l = with_classes (map (λ c. class_bytes c.now) l.all.items) (map need_entry (drop l.need-index l.needs)) ≡ with_classes (map (λ c. class_bytes c.now) l.fn.classes.items) (map need_entry l.needs)
