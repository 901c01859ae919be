use Rattle.std.proofs.Common.{◌∙◌, sym}
use Rattle.ac_cloud.specs.Cloud.CloudWorld.{providers_of}
use Rattle.ac_rules.proofs.PlaceLemmas.{found_within}
use Rattle.ac_find.proofs.differences.below.root_gives.Goals as goal

pub new-requires-clause-provider : goal.new-requires-clause-provider
new-requires-clause-provider c =
    found_within (providers_of c.args.placed.now.cloud.now) c.id-root.result c.in-Some.place (sym c.index_of.ensures ∙ c.in-Some.is)
