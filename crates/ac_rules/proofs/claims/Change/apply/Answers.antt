use Rattle.std.proofs.Common.{◌∙◌, sym, ap}
use Rattle.ac_cloud.proofs.InOrder.{entries_rise}
use Rattle.ac_cloud.specs.Cloud.CloudWorld.{providers_of}
use Rattle.ac_cloud.specs.World.{entry_in, provider_at}
use Rattle.ac_query.specs.Shown.Groups.{need_entry}
use Rattle.ac_rules.proofs.EachSlot.ClaimLemmas.{found_neither, set_here, set_none}
use Rattle.ac_rules.proofs.claims.Change.apply.Goals as goal

pub returns-in-Some-clause-providers : goal.returns-in-Some-clause-providers
returns-in-Some-clause-providers c =
    let cloud = c.args.cloud.now in
    c.set_used.ensures.providers
    ∙ set_here c.args.self (providers_of cloud) c.args.ix (need_entry c.args.need.now) (entries_rise cloud) _ c.in-Some.inventory.now c.used.result c.from-amount.result c.used_after-used.result
    c.class-class.ensures c.in-Some.ensures c.used.ensures (c.from-amount.ensures ∙ c.amount.ensures.value) c.used_after-used.ensures

pub returns-in_default-clause-providers : goal.returns-in_default-clause-providers
returns-in_default-clause-providers c =
    let cloud = c.args.cloud.now in
    let need = need_entry c.args.need.now in
    set_none c.args.self (providers_of cloud) c.args.ix need (entries_rise cloud)
    (ap (entry_in (provider_at (providers_of cloud) c.args.ix)) (sym c.class-class.ensures) ∙ found_neither _ c.in_default.ensures)
