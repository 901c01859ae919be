use Rattle.std.proofs.Common.{arith}
use Rattle.ac_query.specs.Asked.{slots_of}
use Rattle.ac_prune.specs.Left.Accounts.{asked_in}
use Rattle.ac_prune.specs.Loads.Columns.{is_lone}
use Rattle.ac_prune.proofs.Roots.RootLemmas.{load_take}
use Rattle.ac_prune.proofs.hosts.column.Column.count_lone.Goals as goal

pub loop-s-preserved : goal.loop-s-preserved
loop-s-preserved c =
    let column = c.args.self.now in
    let more = load_take (is_lone column c.args.amount) (slots_of (asked_in column.ledger.now)) c.loop-s.s (omega (arith, c.loop-s-test.true, c.count_slots-s-end.ensures.count)) in
    let was = c.loop-s.invariant in
    let one = c.lone_asking.ensures in
    let sum = c.saturating_add-count.ensures in
    omega (arith, more, was, one, sum)
