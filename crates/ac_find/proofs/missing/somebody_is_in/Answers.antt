use Rattle.std.proofs.Common.{◌∙◌, true, length}
use Rattle.std.specs.List.{range_with_len}
use Rattle.ac_cloud.specs.Cloud.CloudWorld.{providers_of}
use Rattle.ac_cloud.specs.World.{is_member, provider_at}
use Rattle.ac_base.proofs.Sorted.SearchFacts.{any_swap}
use Rattle.ac_query.specs.Shown.Groups.{rule_shown}
use Rattle.ac_find.specs.Missing.{somebody_is_in, somebody_is_member}
use Rattle.ac_find.proofs.missing.somebody_is_in.Goals as goal

pub returns : goal.returns
unfolding somebody_is_in somebody_is_member
returns c =
    let all = providers_of c.args.cloud.now in
    c.some_member.ensures ∙ any_swap (λ ix. true) (λ ix a. is_member (provider_at all ix) a) (range_with_len 0 (length all)) (rule_shown c.args.rule.now).ids
