use Rattle.ac_prune.proofs.Roots.RootLemmas.{if_ok, sum_keeps}
use Rattle.ac_prune.proofs.hosts.column.Column.limit_sum.Goals as goal

pub returns : goal.returns
returns c = if_ok _ _ c.limit.result (λ _ is. sum_keeps c.args.self.now c.args.may.now c.limit.new.may c.wanted_of-wanted.result (rw c.deref.ensures.value at c.wanted_of-wanted.ensures) c.requires c.limit.auto.may (rw c.deref-2.ensures.value at is)) c.limit.ensures
