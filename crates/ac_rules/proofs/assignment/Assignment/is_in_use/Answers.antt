use Rattle.std.proofs.Common.{rules}
use Rattle.ac_rules.specs.Claims.{is_in_use, uses_sums}
use Rattle.ac_rules.specs.Shown.Assignments.{assigned_of}
use Rattle.ac_rules.specs.Shown.Changes.{is_counted_in_use, uses_counted_sums}
use Rattle.ac_rules.proofs.ChainLemmas.{all_slots}
use Rattle.ac_rules.proofs.assignment.Assignment.is_in_use.Goals as goal

pub returns-clause-in_use : goal.returns-clause-in_use
unfolding is_in_use
returns-clause-in_use c = all_slots _ _ (λ all x. uses_sums all (assigned_of c.args.self.now) x) c.all.new.self _ _ c.all.ensures.ran c.slots.ensures (λ x b q k. search rules)

pub returns-clause-counted : goal.returns-clause-counted
unfolding is_counted_in_use
returns-clause-counted c = all_slots _ _ (λ all x. uses_counted_sums all (assigned_of c.args.self.now) x) c.all.new.self _ _ c.all.ensures.ran c.slots.ensures (λ x b q k. search rules)
