use Rattle.std.proofs.Common.{rules}
use Rattle.ac_rules.specs.Own.{tree_fits}
use Rattle.ac_rules.proofs.ChainLemmas.{all_slots}
use Rattle.ac_rules.proofs.assignment.Assignment.is_in_trees.Goals as goal

pub returns : goal.returns
returns c = all_slots _ _ tree_fits c.all.new.self _ _ c.all.ensures.ran c.slots.ensures (λ x b q k. search rules)
