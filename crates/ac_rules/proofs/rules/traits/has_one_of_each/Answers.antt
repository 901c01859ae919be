use Rattle.std.proofs.Common.{rules}
use Rattle.ac_query.specs.Shown.Groups.{any_of_shown}
use Rattle.ac_rules.proofs.ChainLemmas.{all_items}
use Rattle.ac_rules.proofs.rules.traits.has_one_of_each.Goals as goal

pub returns : goal.returns
returns c = all_items any_of_shown _ _ _ _ _ c.all.ensures.ran c.iter.ensures.rest (λ x b q k. search rules)
