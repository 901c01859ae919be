use Rattle.std.proofs.Common.{subst, sym}
use Rattle.ac_prune.specs.Collective.{IsWanted}
use Rattle.ac_prune.specs.Left.Accounts.{providers_in, asked_in}
use Rattle.ac_prune.proofs.Search.CollectiveLemmas.{lacking_dead}
use Rattle.ac_prune.proofs.collective.CollectiveLookAhead.may_follow.Goals as goal

pub returns-then-lacks : goal.returns-then-lacks
returns-then-lacks c =
    let l = c.args.front.now.ledger.now in
    let wanted = c.wanted-item.result in
    let is : IsWanted (providers_in l) (asked_in l) wanted =
    subst (IsWanted (providers_in l) (asked_in l)) (sym (rw c.deref-wanted-items.ensures.value at c.wanted-item.is)) (c.requires.of c.loop-wanted.wanted-index wanted (rw c.deref-wanted-items.ensures.value at c.loop-wanted-test.true)) in
    record { dead = λ _. lacking_dead (providers_in l) (asked_in l) wanted c.args.front.now.path.now c.args.provider is (c.lacks.ensures c.if-lacks.true) }
