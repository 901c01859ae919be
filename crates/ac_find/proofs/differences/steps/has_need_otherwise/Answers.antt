use Rattle.std.proofs.Common.{rules}
use Rattle.ac_query.specs.Shown.Groups.{need_entry}
use Rattle.ac_rules.proofs.ChainLemmas.{any_items}
use Rattle.ac_find.proofs.differences.steps.has_need_otherwise.Goals as goal

pub returns : goal.returns
returns c = rw (← c.needs.ensures) (any_items need_entry _ _ _ _ _ c.any.ensures.ran c.iter.ensures.rest (λ x b q k. search rules))
