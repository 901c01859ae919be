use Rattle.std.proofs.Common.{◌&&◌, map, rules}
use Rattle.std.specs.Option.{is_none}
use Rattle.ac_base.specs.Names.{trait_bytes}
use Rattle.ac_cloud.specs.World.{provider_at}
use Rattle.ac_rules.specs.Own.{has_any}
use Rattle.ac_rules.proofs.ChainLemmas.{any_slots}
use Rattle.ac_rules.proofs.assignment.Assignment.is_one_brought.Goals as goal

pub returns : goal.returns
returns c = any_slots _ _ (λ all x. is_none x.slot.suffix && has_any (provider_at all x.provider) (map trait_bytes c.args.names.now)) c.any.new.self _ _ c.any.ensures.ran c.slots.ensures (λ x b q k. search rules)
