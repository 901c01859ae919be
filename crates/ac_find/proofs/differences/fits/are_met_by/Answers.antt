use Rattle.std.proofs.Common.{arith}
use Rattle.std.specs.List.{list_any}
use Rattle.ac_cloud.specs.Providers.{provider_of}
use Rattle.ac_cloud.specs.World.{is_member}
use Rattle.ac_query.specs.Shown.Groups.{group_asked}
use Rattle.ac_rules.proofs.EachSlot.AggregateLemmas.{rules_apart}
use Rattle.ac_find.proofs.differences.fits.are_met_by.Goals as goal

pub returns-then-not-forbids_any : goal.returns-then-not-forbids_any
returns-then-not-forbids_any c =
    let apart = rules_apart (λ rule. list_any (is_member (provider_of c.args.provider.now)) rule.ids) (group_asked c.args.group.now).member_of in
    grind (arith, apart, c.is_in_asked.ensures, c.aggregates.ensures, c.forbids_any.ensures, c.if-not-forbids_any.true)

pub returns-else-not-forbids_any : goal.returns-else-not-forbids_any
returns-else-not-forbids_any c =
    let apart = rules_apart (λ rule. list_any (is_member (provider_of c.args.provider.now)) rule.ids) (group_asked c.args.group.now).member_of in
    grind (arith, apart, c.aggregates.ensures, c.forbids_any.ensures, c.if-not-forbids_any.false)
