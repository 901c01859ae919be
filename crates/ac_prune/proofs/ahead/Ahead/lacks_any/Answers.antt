use Rattle.ac_base.specs.Names.{class_bytes}
use Rattle.ac_prune.proofs.Roots.RootLemmas.{known_item}
use Rattle.ac_prune.proofs.ahead.Ahead.lacks_any.Goals as goal

pub lacks-requires-clause-known : goal.lacks-requires-clause-known
lacks-requires-clause-known c =
    rw c.deref-class-items.ensures.value at (known_item (λ v. class_bytes v.now) c.deref-class-items.result.now c.loop-class.class-index c.class-item.result c.loop-class-test.true c.class-item.is)
