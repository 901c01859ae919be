use Rattle.std.proofs.Common.{◌∙◌, ap}
use Rattle.ac_rules.specs.Placed.{slot_at}
use Rattle.ac_prune.specs.Left.Accounts.{asked_in, texts_in, left_in}
use Rattle.ac_prune.specs.Left.{has_each}
use Rattle.ac_prune.proofs.Paths.LeftLemmas.{each_suffices}
use Rattle.ac_prune.proofs.Paths.LedgerLemmas.{asks_at, row_low, known_in, slot_rises}
use Rattle.ac_prune.proofs.ledger.Ledger.has_enough.Goals as goal

pub has_each-requires : goal.has_each-requires
has_each-requires c =
    let l = c.args.self.now in
    rw (c.deref.ensures.value, c.deref-2.ensures.value, c.row.ensures) (row_low l c.args.s c.args.ix c.index.result.now c.requires.slot c.requires.provider c.index.ensures)

pub returns : goal.returns
returns c =
    let l = c.args.self.now in
    (rw (c.deref.ensures.value, c.deref-2.ensures.value, c.row.ensures) at c.has_each.ensures)
    ∙ (ap (has_each (left_in l c.args.ix)) (asks_at l c.args.s c.index.result.now c.requires.slot c.index.ensures)
    ∙ each_suffices (texts_in l) (left_in l c.args.ix) (slot_at (asked_in l) c.args.s).needs (known_in l c.args.s c.requires.slot) (slot_rises l.query.now c.args.s c.requires.slot))
