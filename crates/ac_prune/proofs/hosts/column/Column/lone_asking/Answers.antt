use Rattle.ac_base.specs.Names.{class_bytes}
use Rattle.ac_prune.proofs.Roots.RootLemmas.{lone_told}
use Rattle.ac_prune.proofs.hosts.column.Column.lone_asking.Goals as goal

pub returns-then-wanted-amount : goal.returns-then-wanted-amount
returns-then-wanted-amount c =
    let column = c.args.self.now in
    lone_told column.ledger.now c.args.s column.number c.args.amount c.wanted.result (class_bytes column.class.now) c.index.result.now c.index-then-index.result.now c.requires column.numbered c.index.ensures c.index-then-index.ensures
    (rw c.deref.ensures.value at c.wanted.ensures) c.if-index.true c.if-wanted-amount.true
