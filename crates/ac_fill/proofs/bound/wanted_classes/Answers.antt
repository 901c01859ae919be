use Rattle.std.proofs.Common.{◌∙◌, ◌+◌, List, ℕ, map, drop, ap, sym, arith}
use Rattle.std.specs.List.{flat_map}
use Rattle.ac_base.specs.Names.{class_bytes}
use Rattle.ac_query.specs.Asked.{slots_of}
use Rattle.ac_query.specs.Shown.Queries.{asked_of}
use Rattle.ac_rules.specs.Shown.Classes.{with_classes}
use Rattle.ac_fill.specs.Bounds.{slot_wants}
use Rattle.ac_fill.proofs.Least.{classes_more}
use Rattle.ac_fill.proofs.bound.wanted_classes.Goals as goal

pub loop-s-preserved : goal.loop-s-preserved
loop-s-preserved c =
    let slots = slots_of (asked_of c.args.query.now) in
    let s = c.loop-s.s in
    ap (λ (classes : List (List ℕ)). with_classes classes (map (λ want. want.need) (flat_map slot_wants (drop (s + 1) slots)))) c.in_ok-push_classes.ensures
    ∙ (sym (classes_more (map (λ v. class_bytes v.now) c.loop-s.classes.items) slots s (omega (arith, c.loop-s-test.true, c.count_slots-s-end.ensures.count))) ∙ c.loop-s.invariant)
