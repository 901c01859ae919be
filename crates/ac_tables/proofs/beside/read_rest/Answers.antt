use Rattle.ac_tables.proofs.Common.{◌∙◌, ap, fields_of, subst, sym}
use Rattle.ac_tables.proofs.BesideFaults.{tells_first}
use Rattle.ac_tables.specs.Beside.{TellsBeside, first_bad}
use Rattle.ac_tables.proofs.beside.read_rest.Goals as goal

pub returns-in-Err-clause-fault : goal.returns-in-Err-clause-fault
returns-in-Err-clause-fault g c =
    let gives = rw c.if-branch.true at c.in_ok-next_row.ensures.gives in
    let checks = g.T.BesideRecord.checks (fields_of c.args.header.now) in
    subst (λ first. TellsBeside first c.fault_at.result) (sym (ap (first_bad checks c.loop-row.number) gives) ∙ c.loop-row.invariant.bad)
    (tells_first _ _ c.fault_at.result (c.fault_at.ensures _ c.in-Err.ensures.fault))
