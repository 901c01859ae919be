use Rattle.std.proofs.Common.{◌≡◌, Err, refl, subst}
use Rattle.ac_run.specs.Wanted.Named.{TellsPair, query_with_ids}
use Rattle.ac_run.specs.declared.wanted.named.query.PairFault.{PairFault}
use Rattle.ac_run.proofs.wanted.named.Naming.query.Goals as goal

pub returns-in-Err-Name-clause-fault : goal.returns-in-Err-Name-clause-fault
returns-in-Err-Name-clause-fault c called are =
    let is : query_with_ids called c.args.query.now ≡ Err (c.in-Err-Name.number, c.in-Err-Name.fault) =
    subst (λ (e : PairFault). TellsPair (query_with_ids called c.args.query.now) e) c.in-Err-Name.field-0-is (c.in-Err-Name.ensures.fault called are) in
    rw is refl
