use Rattle.std.proofs.Common.{rules}
use Rattle.ac_base.specs.Names.{trait_bytes}
use Rattle.ac_rules.proofs.ChainLemmas.{all_items}
use Rattle.ac_find.proofs.counts.required.Serving.have_each.Goals as goal

pub returns : goal.returns
returns c = all_items trait_bytes _ _ _ _ _ c.all.ensures.ran c.iter.ensures.rest (λ x b q k. search rules)
