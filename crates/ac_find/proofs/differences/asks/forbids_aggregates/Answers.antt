use Rattle.std.proofs.Common.{◌∙◌, ap, rules}
use Rattle.std.specs.List.{list_all}
use Rattle.ac_query.specs.Shown.Groups.{rule_shown}
use Rattle.ac_rules.proofs.ChainLemmas.{all_items}
use Rattle.ac_find.proofs.differences.asks.forbids_aggregates.Goals as goal

pub returns : goal.returns
returns c = all_items rule_shown _ _ _ _ _ c.all.ensures.ran c.iter.ensures.rest (λ x b q k. search rules) ∙ ap (list_all _) c.member_of.ensures
