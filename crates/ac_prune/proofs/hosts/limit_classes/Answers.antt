use Rattle.ac_base.specs.Names.{class_bytes}
use Rattle.ac_prune.proofs.Roots.RootLemmas.{known_item}
use Rattle.ac_prune.proofs.hosts.limit_classes.Goals as goal

pub new-requires-clause-known : goal.new-requires-clause-known
new-requires-clause-known c =
    rw c.deref-class-items.ensures.value at (known_item (λ v. class_bytes v.now) c.deref-class-items.result.now c.loop-number.number c.class-item.result c.loop-number-test.true c.class-item.is)
