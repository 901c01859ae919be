use Rattle.std.proofs.Common.{◌≡◌, ◌∙◌, ◌+◌, ℕ, suc, map, sym, ap, subst, arith}
use Rattle.ac_base.specs.Names.{class_bytes}
use Rattle.ac_query.specs.Shown.Queries.{asked_of}
use Rattle.ac_rules.specs.Shown.Classes.{with_classes}
use Rattle.ac_rules.proofs.ClassLemmas.{AreClasses, next_slot}
use Rattle.ac_rules.proofs.classes.all_classes.Goals as goal

pub loop-s-preserved : goal.loop-s-preserved
loop-s-preserved c =
    let asked = asked_of c.args.query.now in
    let texts = map (λ v. class_bytes v.now) c.loop-s.all.items in
    let s = c.loop-s.s in
    let next : suc s ≡ s + 1 = omega arith in
    subst (λ (n : ℕ). AreClasses asked n (map (λ v. class_bytes v.now) c.in_ok-all.all.items)) next
    (subst (AreClasses asked (suc s)) (sym (c.in_ok-all.ensures ∙ ap (with_classes texts) c.needs_at.ensures))
    (next_slot asked s texts (omega (arith, c.loop-s-test.true, c.count_slots-s-end.ensures.count)) c.loop-s.invariant))
