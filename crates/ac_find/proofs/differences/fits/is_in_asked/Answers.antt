use Rattle.std.proofs.Common.{◌∙◌, ap, rules}
use Rattle.std.specs.List.{list_all, list_any}
use Rattle.ac_cloud.specs.Providers.{provider_of}
use Rattle.ac_cloud.specs.World.{is_member}
use Rattle.ac_query.specs.Shown.Groups.{group_asked, rule_shown}
use Rattle.ac_rules.proofs.ChainLemmas.{all_items}
use Rattle.ac_rules.proofs.EachSlot.AggregateLemmas.{all_asking}
use Rattle.ac_find.proofs.differences.fits.is_in_asked.Goals as goal

pub returns : goal.returns
returns c =
    all_items rule_shown _ _ _ _ _ c.all.ensures.ran c.iter.ensures.rest (λ x b q k. search rules)
    ∙ ap (list_all _) c.asking.ensures
    ∙ all_asking (λ rule. list_any (is_member (provider_of c.args.provider.now)) rule.ids) (group_asked c.args.group.now).member_of
