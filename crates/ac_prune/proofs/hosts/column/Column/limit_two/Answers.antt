use Rattle.ac_prune.proofs.Roots.MixedLemmas.{mixed_keep}
use Rattle.ac_prune.proofs.Roots.RootLemmas.{if_ok}
use Rattle.ac_prune.proofs.hosts.column.Column.limit_two.Goals as goal

pub returns : goal.returns
returns c = if_ok _ _ c.limit.result
    (λ _ is. mixed_keep c.args.small c.args.large c.count_times-times.result c.args.self.now c.args.may.now c.limit.new.may c.in_ok-mixed.mixed.items c.weigh_all-wanted.result c.requires.small c.requires.large
    c.count_times-times.ensures.reach (rw c.deref.ensures.value at c.in_ok-mixed.ensures.mixed) (rw c.deref-2.ensures.value at c.weigh_all-wanted.ensures) c.requires.hosts c.limit.auto.may (rw c.deref-3.ensures.value at is))
    c.limit.ensures
