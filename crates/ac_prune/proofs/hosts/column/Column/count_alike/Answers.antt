use Rattle.std.proofs.Common.{arith}
use Rattle.ac_query.specs.Asked.{slots_of}
use Rattle.ac_prune.specs.Left.Accounts.{asked_in}
use Rattle.ac_prune.specs.Loads.Kinds.{asks_alike}
use Rattle.ac_prune.proofs.Roots.RootLemmas.{load_take}
use Rattle.ac_prune.proofs.hosts.column.Column.count_alike.Goals as goal

pub loop-s-preserved : goal.loop-s-preserved
loop-s-preserved c =
    let column = c.args.self.now in
    let weight = asks_alike column c.args.list.now c.args.amount c.args.lone in
    let more = load_take weight (slots_of (asked_in column.ledger.now)) c.loop-s.s (omega (arith, c.loop-s-test.true, c.count_slots-s-end.ensures.count)) in
    omega (arith, more, c.loop-s.invariant, c.asks_alike.ensures, c.saturating_add-count.ensures)
