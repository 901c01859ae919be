use Rattle.std.proofs.Common.{◌∙◌, ap, rules}
use Rattle.std.specs.List.{list_any}
use Rattle.ac_cloud.specs.Cloud.Entries.{entry_pair}
use Rattle.ac_rules.proofs.ChainLemmas.{any_items}
use Rattle.ac_find.specs.Service.Differing.{has_other, is_other}
use Rattle.ac_find.proofs.differences.summaries.has_other.Goals as goal

pub returns : goal.returns
unfolding has_other
returns c = any_items entry_pair (λ entry. is_other entry.1.inventory) _ _ _ _ c.any.ensures.ran c.iter.ensures.rest (λ x b q k. search rules) ∙ ap (list_any (λ entry. is_other entry.1.inventory)) c.entries.ensures
