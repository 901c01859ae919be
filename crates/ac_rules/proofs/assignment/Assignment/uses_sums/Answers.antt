use Rattle.std.proofs.Common.{rules}
use Rattle.ac_query.specs.Shown.Groups.{need_entry}
use Rattle.ac_rules.specs.Claims.{uses_sums}
use Rattle.ac_rules.specs.Shown.Changes.{uses_counted_sums}
use Rattle.ac_rules.proofs.ChainLemmas.{all_items}
use Rattle.ac_rules.proofs.assignment.Assignment.uses_sums.Goals as goal

pub returns-clause-uses : goal.returns-clause-uses
unfolding uses_sums
returns-clause-uses c = rw (← c.needs.ensures) (all_items need_entry _ _ _ _ _ c.all.ensures.ran c.iter.ensures.rest (λ x b q k. search rules))

pub returns-clause-counted : goal.returns-clause-counted
unfolding uses_counted_sums
returns-clause-counted c = rw (← c.needs.ensures) (all_items need_entry _ _ _ _ _ c.all.ensures.ran c.iter.ensures.rest (λ x b q k. search rules))
