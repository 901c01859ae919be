use Rattle.std.proofs.Common.{◌∙◌, length, refl, rules, arith}
use Rattle.std.proofs.lemmas.Iterator.{YieldsList-from_range}
use Rattle.std.proofs.lemmas.Iterator.Search.{all_from_yields_List}
use Rattle.ac_cloud.specs.World.{provider_at}
use Rattle.ac_cloud.specs.Cloud.CloudWorld.{providers_of}
use Rattle.ac_tables.specs.UsageRows.{entries_fit, usages_fit}
use Rattle.ac_tables.proofs.UsageRows.Written.{by_places}
use Rattle.ac_tables.proofs.written.usages_fit.Goals as goal

pub returns : goal.returns
unfolding usages_fit
returns c =
    let all = providers_of c.args.cloud.now in
    all_from_yields_List (λ ix. entries_fit (provider_at all ix)) _ _ c.all.result c.all.ensures.ran
    (YieldsList-from_range 0 c.len.result (length all) refl (omega (arith, c.len.ensures))) (λ x b q k. search rules)
    ∙ by_places entries_fit all
