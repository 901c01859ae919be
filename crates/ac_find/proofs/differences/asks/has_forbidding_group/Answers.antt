use Rattle.std.proofs.Common.{◌∙◌, ap, rules}
use Rattle.std.specs.List.{list_any}
use Rattle.ac_query.specs.Shown.Groups.{group_entry}
use Rattle.ac_rules.proofs.ChainLemmas.{any_items}
use Rattle.ac_find.proofs.differences.asks.has_forbidding_group.Goals as goal

pub returns : goal.returns
returns c = any_items group_entry _ _ _ _ _ c.any.ensures.ran c.iter.ensures.rest (λ x b q k. search rules) ∙ ap (list_any _) c.groups.ensures.groups
