use Rattle.std.proofs.Common.{rules}
use Rattle.ac_query.specs.Shown.Groups.{need_entry}
use Rattle.ac_rules.proofs.ChainLemmas.{any_items}
use Rattle.ac_find.proofs.differences.asks.have_common_class.Goals as goal

pub returns : goal.returns
returns c = any_items need_entry _ _ _ _ _ c.any.ensures.ran c.iter.ensures.rest (λ x b q k. search rules)
