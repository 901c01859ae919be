use Rattle.std.proofs.Common.{◌≡◌, ℕ, List, length, Some, ap, arith}
use Rattle.std.specs.Vec.{with_items}
use Rattle.std.proofs.lemmas.List.{with_items_is}
use Rattle.ac_rules.specs.Shown.Odometer.{successor, has_ended}
use Rattle.ac_rules.specs.declared.plain.lists.AllLists.{AllLists}
use Rattle.ac_rules.proofs.Lists.OdometerLemmas.{given_next, next_below}
use Rattle.ac_rules.proofs.plain.lists.AllLists.step.Goals as goal

-- what a count leaves in the list
counted : (w : AllLists) (zs lent : List ℕ) → lent ≡ w.list.items → length zs ≡ length lent → (with_items w.list zs).items ≡ zs
counted w zs lent is size = with_items_is w.list zs (omega (arith, ap length is, w.list.ok))

pub invariant_of-self-then-count_up : goal.invariant_of-self-then-count_up
invariant_of-self-then-count_up c =
    let w = c.args.self.now in
    let zs = c.count_up.new.list in
    let next : successor w.bound w.list.items ≡ Some zs = rw (c.if-count_up.true, c.deref_mut.ensures.value) at c.count_up.ensures in
    record {
      below = λ _. rw (counted w zs c.deref_mut.result.now c.deref_mut.ensures.value c.count_up.auto.list)
          (next_below w.bound w.list.items zs next (w.below (ap has_ended c.in-Given.is)));
    }

pub returns-then-count_up-clause-given : goal.returns-then-count_up-clause-given
returns-then-count_up-clause-given c =
    let w = c.args.self.now in
    let zs = c.count_up.new.list in
    let next : successor w.bound w.list.items ≡ Some zs = rw (c.if-count_up.true, c.deref_mut.ensures.value) at c.count_up.ensures in
    rw (counted w zs c.deref_mut.result.now c.deref_mut.ensures.value c.count_up.auto.list, c.in-Given.is) (given_next w.bound w.list.items zs next)
