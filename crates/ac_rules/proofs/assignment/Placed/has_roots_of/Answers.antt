use Rattle.std.proofs.Common.{◌∙◌, ap, ap₂}
use Rattle.std.specs.List.{list_any}
use Rattle.ac_cloud.specs.Cloud.CloudWorld.{providers_of}
use Rattle.ac_cloud.specs.World.{is_member, provider_at, root_provider}
use Rattle.ac_query.specs.Shown.Groups.{rule_shown}
use Rattle.ac_rules.proofs.assignment.Placed.has_roots_of.Goals as goal

pub returns : goal.returns
returns c =
    c.is_in_any.ensures
    ∙ ap (λ p. list_any (is_member p) (rule_shown c.args.rule.now).ids)
    (c.root.ensures.root ∙ ap₂ (λ cloud ix. root_provider (providers_of cloud) (provider_at (providers_of cloud) ix)) c.its_provider.ensures.cloud c.its_provider.ensures.place)
