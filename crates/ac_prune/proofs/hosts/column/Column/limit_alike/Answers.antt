use Rattle.std.proofs.Common.{◌<◌, ℕ, Bor, length, slice_index, subst}
use Rattle.ac_prune.specs.Left.Accounts.{providers_in}
use Rattle.ac_prune.specs.declared.ledger.Ledger.{Ledger}
use Rattle.ac_prune.proofs.Roots.KindLemmas.{alike_pieces}
use Rattle.ac_prune.proofs.Roots.RootLemmas.{if_ok}
use Rattle.ac_prune.proofs.hosts.column.Column.limit_alike.Goals as goal

pub returns : goal.returns
returns c = if_ok _ _ c.limit.result
    (λ _ is. alike_pieces c.args.self.now c.args.may.now c.limit.new.may c.of_slot-list.result.now c.in_ok-pieces.pieces.items c.args.amount c.count_alike-wanted.result c.args.lone c.requires.some c.in_ok-pieces.ensures.pieces
    low c.count_alike-wanted.ensures c.requires.hosts c.limit.auto.may (rw c.deref.ensures.value at is))
    c.limit.ensures
  where
    low : (j : ℕ) → j < length c.of_slot-list.result.now → slice_index c.of_slot-list.result.now j < length (providers_in c.args.self.now.ledger.now)
    low j h = subst (λ (ledger : Bor Ledger). slice_index c.of_slot-list.result.now j < length (providers_in ledger.now)) c.requires.same (c.of_slot-list.ensures.low j 0 h)
