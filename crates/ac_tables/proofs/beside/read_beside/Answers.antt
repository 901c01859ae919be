use Rattle.ac_tables.proofs.BesideFaults.{tells_first}
use Rattle.ac_tables.specs.Beside.{beside_fault}
use Rattle.ac_tables.proofs.beside.read_beside.Goals as goal

pub returns-clause-fault : goal.returns-clause-fault
unfolding beside_fault
returns-clause-fault g c =
    let told = rw c.columns.ensures at c.in-Err.ensures.fault in
    tells_first _ _ c.fault_at.result (c.fault_at.ensures _ told)
