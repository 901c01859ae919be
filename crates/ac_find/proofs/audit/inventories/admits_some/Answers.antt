use Rattle.std.proofs.Common.{◌≡◌, ◌∙◌, ◌<◌, arith, subst}
use Rattle.ac_base.specs.Quantities.{capacity}
use Rattle.ac_find.specs.Audit.{admits_some}
use Rattle.ac_find.proofs.AuditFacts.{admits_greatest, admits_none}
use Rattle.ac_find.proofs.audit.inventories.admits_some.Goals as goal

pub returns-in-Some : goal.returns-in-Some
unfolding admits_some
returns-in-Some c =
    let i = c.args.inventory.now in
    rw (c.max-least.ensures, c.from-2.ensures, c.min_unit.ensures, c.in-Some.ensures.1, c.min-most.ensures, c.capacity.ensures.value, c.from.ensures, c.max_unit.ensures, c.from-3.ensures, c.step_size.ensures)
    (admits_greatest i.min_unit i.max_unit i.step_size (capacity i) (subst (λ n. 0 < n) (c.from-3.ensures ∙ c.step_size.ensures) c.in-Some.ensures.0))

pub returns-in-None : goal.returns-in-None
unfolding admits_some
returns-in-None c = let none : c.args.inventory.now.step_size ≡ 0 = omega (arith, c.in-None.ensures, c.from-3.ensures, c.step_size.ensures) in rw none (admits_none c.args.inventory.now.min_unit c.args.inventory.now.max_unit (capacity c.args.inventory.now))
