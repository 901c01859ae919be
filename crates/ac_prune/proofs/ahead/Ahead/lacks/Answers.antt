use Rattle.ac_base.specs.Names.{class_bytes}
use Rattle.ac_prune.proofs.Paths.AheadLemmas.{pieces_lack}
use Rattle.ac_prune.proofs.ahead.Ahead.lacks.Goals as goal

pub returns-then-pieces-count_asking : goal.returns-then-pieces-count_asking
returns-then-pieces-count_asking c _ =
    pieces_lack c.args.front.now.ledger.now c.args.front.now.path.now c.args.root c.number_of-number.result c.wanted-amount.result _ c.pieces_left-pieces.result c.count_asking.result (class_bytes c.args.class.now) c.deref-3.result.now c.deref-3.ensures.value
    c.if-amount-gt0.true c.requires.known (rw c.deref.ensures.value at c.number_of-number.ensures.number) c.args.front.now.accounts
    c.pieces_left-pieces.ensures c.if-pieces-count_asking.true c.count_asking.type_inv c.count_asking.ensures
