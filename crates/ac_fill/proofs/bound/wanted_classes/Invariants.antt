use Rattle.std.proofs.Common.{◌≡◌, map}
use Rattle.std.specs.List.{flat_map}
use Rattle.std.specs.Prelude.{drop}
use Rattle.ac_base.specs.Names.{class_bytes}
use Rattle.ac_query.specs.Asked.{slots_of}
use Rattle.ac_query.specs.Shown.Queries.{asked_of}
use Rattle.ac_rules.specs.Shown.Classes.{with_classes}
use Rattle.ac_fill.specs.Bounds.{slot_wants, wanted_classes}
use Rattle.ac_fill.proofs.bound.wanted_classes.Given as goal

abbrev pub invariant-loop-s : goal.invariant-loop-s
invariant-loop-s l =
    with_classes (map (λ c. class_bytes c.now) l.classes.items) (map (λ want. want.need) (flat_map slot_wants (drop l.s (slots_of (asked_of l.query))))) ≡ wanted_classes (asked_of l.query)
