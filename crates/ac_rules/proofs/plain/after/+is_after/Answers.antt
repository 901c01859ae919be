use Rattle.std.proofs.Common.{◌<◌, length, arith}
use Rattle.std.proofs.lemmas.List.Elements.{All-rest}
use Rattle.ac_cloud.specs.Cloud.CloudWorld.{providers_of}
use Rattle.ac_rules.proofs.plain.after.+is_after.Goals as goal

pub is_after-requires : goal.is_after-requires
is_after-requires t c =
    let both = c.in-Some-Some in (
      omega (arith, both.ensures.cases.1, both.ensures'.cases.1),
      All-rest (λ p. p < length (providers_of c.args.cloud.now)) both.ix.now both.list.now c.args.list.now both.ensures.cases.0 c.requires,
    )
