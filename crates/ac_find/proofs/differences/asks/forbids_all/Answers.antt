use Rattle.std.proofs.Common.{◌∙◌, ap, rules}
use Rattle.std.specs.List.{list_all}
use Rattle.ac_base.specs.Names.{trait_bytes}
use Rattle.ac_rules.proofs.ChainLemmas.{all_items}
use Rattle.ac_find.proofs.differences.asks.forbids_all.Goals as goal

pub returns : goal.returns
returns c = all_items trait_bytes _ _ _ _ _ c.all.ensures.ran c.iter.ensures.rest (λ x b q k. search rules) ∙ ap (list_all _) c.names.ensures.names
