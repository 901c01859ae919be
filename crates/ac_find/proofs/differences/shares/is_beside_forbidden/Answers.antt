use Rattle.std.proofs.Common.{◌∙◌, ap, rules}
use Rattle.std.specs.List.{list_any}
use Rattle.ac_query.specs.Shown.Groups.{rule_shown}
use Rattle.ac_rules.proofs.ChainLemmas.{any_items}
use Rattle.ac_find.proofs.differences.shares.is_beside_forbidden.Goals as goal

pub returns : goal.returns
returns c = any_items rule_shown _ _ _ _ _ c.any.ensures.ran c.iter.ensures.rest (λ x b q k. search rules) ∙ ap (list_any _) (c.member_of.ensures ∙ ap (λ entry. entry.1.member_of) c.group_at.ensures)
