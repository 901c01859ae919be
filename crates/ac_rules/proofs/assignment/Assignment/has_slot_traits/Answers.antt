use Rattle.std.proofs.Common.{rules}
use Rattle.ac_rules.specs.Own.{traits_fit}
use Rattle.ac_rules.proofs.ChainLemmas.{all_slots}
use Rattle.ac_rules.proofs.assignment.Assignment.has_slot_traits.Goals as goal

pub returns : goal.returns
returns c = all_slots _ _ traits_fit c.all.new.self _ _ c.all.ensures.ran c.slots.ensures (λ x b q k. search rules)
