use Rattle.std.proofs.Common.{rules}
use Rattle.ac_base.specs.Names.{trait_bytes}
use Rattle.ac_rules.specs.Together.{brings, is_brought}
use Rattle.ac_rules.proofs.ChainLemmas.{any_slots}
use Rattle.ac_rules.proofs.assignment.Assignment.is_brought.Goals as goal

pub returns : goal.returns
unfolding is_brought
returns c = any_slots _ _ (λ all x. brings all (trait_bytes c.args.name.now) x) c.any.new.self _ _ c.any.ensures.ran c.slots.ensures (λ x b q k. search rules)
