use Rattle.std.proofs.Common.{rules}
use Rattle.ac_rules.proofs.ChainLemmas.{all_items}
use Rattle.ac_run.specs.Capacity.{has_enough}
use Rattle.ac_run.specs.Rooms.{room_shown}
use Rattle.ac_run.proofs.capacity.have_enough.Goals as goal

pub returns : goal.returns
returns c = all_items room_shown has_enough _ _ _ _ c.all.ensures.ran c.iter.ensures.rest (λ x b q k. search rules)
