use Rattle.std.proofs.Common.{◌≡◌, Err, refl, subst}
use Rattle.ac_run.specs.Wanted.Named.{TellsPair}
use Rattle.ac_run.specs.Wanted.NamedFlavors.{table_with_ids}
use Rattle.ac_run.specs.declared.wanted.named.query.PairFault.{PairFault}
use Rattle.ac_run.proofs.wanted.named.Naming.flavors.Goals as goal

pub returns-in-Err-Name-clause-fault : goal.returns-in-Err-Name-clause-fault
returns-in-Err-Name-clause-fault c called are =
    let is : table_with_ids called c.in-Some.text.now ≡ Err (c.in-Err-Name.row, c.in-Err-Name.fault) =
    subst (λ (e : PairFault). TellsPair (table_with_ids called c.in-Some.text.now) e) c.in-Err-Name.field-0-is (c.in-Err-Name.ensures.fault called are) in
    rw (c.in-Some.is, is) refl
