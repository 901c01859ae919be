use Rattle.ac_prune.proofs.Roots.RootLemmas.{if_ok, pieces_keep}
use Rattle.ac_prune.proofs.hosts.column.Column.limit_pieces.Goals as goal

pub returns : goal.returns
returns c = if_ok _ _ c.limit.result
    (λ _ is. pieces_keep c.args.self.now c.args.may.now c.limit.new.may c.in_ok-pieces.pieces.items c.args.amount c.count_asking-wanted.result c.requires.some (rw c.deref.ensures.value at c.in_ok-pieces.ensures.pieces)
    (rw c.deref-2.ensures.value at c.count_asking-wanted.ensures) c.requires.hosts c.limit.auto.may (rw c.deref-3.ensures.value at is))
    c.limit.ensures
