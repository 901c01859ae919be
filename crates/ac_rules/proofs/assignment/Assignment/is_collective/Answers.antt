use Rattle.std.proofs.Common.{ap, ◌∙◌, rules}
use Rattle.std.specs.List.{list_all}
use Rattle.ac_query.specs.Shown.Groups.{group_entry}
use Rattle.ac_rules.specs.Together.{collective}
use Rattle.ac_rules.proofs.ChainLemmas.{all_items}
use Rattle.ac_rules.proofs.assignment.Assignment.is_collective.Goals as goal

pub returns : goal.returns
unfolding collective
returns c = all_items group_entry _ _ _ _ _ c.all.ensures.ran c.iter.ensures.rest (λ x b q k. search rules)
    ∙ ap (list_all _) c.groups.ensures.groups
