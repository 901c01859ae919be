use Rattle.std.proofs.Common.{arith}
use Rattle.std.specs.Str.{bytes_eq}
use Rattle.ac_cloud.specs.Cloud.CloudWorld.{providers_of}
use Rattle.ac_prune.proofs.Search.OpenLemmas.{filter_few}
use Rattle.ac_find.proofs.audit.names.Names.count.Goals as goal

pub count_name-requires : goal.count_name-requires
count_name-requires c =
    let all = providers_of c.args.cloud.now in
    let name = c.name.result.now in
    omega (arith, c.loop-ix.invariant name, filter_few (λ p. bytes_eq p.name name) all, c.len-ix-end.ensures, c.len-ix-end.type_inv)
