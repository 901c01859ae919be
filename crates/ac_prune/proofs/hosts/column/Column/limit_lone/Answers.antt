use Rattle.ac_prune.proofs.Roots.RootLemmas.{if_ok, lone_keep}
use Rattle.ac_prune.proofs.hosts.column.Column.limit_lone.Goals as goal

pub returns : goal.returns
returns c = if_ok _ _ c.limit.result
    (λ _ is. lone_keep c.args.self.now c.args.may.now c.limit.new.may c.in_ok-pieces.pieces.items c.in_ok-ones.ones.items c.args.amount c.count_lone.result c.requires.some (rw c.deref.ensures.value at c.in_ok-pieces.ensures.pieces)
    (rw c.deref.ensures.value at c.in_ok-pieces.ensures.count) (rw c.deref-2.ensures.value at c.in_ok-ones.ensures.ones) c.count_lone.ensures c.requires.hosts c.limit.auto.may (rw c.deref-3.ensures.value at is))
    c.limit.ensures
