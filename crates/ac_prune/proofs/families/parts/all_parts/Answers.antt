use Rattle.ac_prune.specs.Left.Accounts.{providers_in, asked_in}
use Rattle.ac_cloud.proofs.InOrder.{cloud_in_order}
use Rattle.ac_prune.proofs.Roots.PartLemmas.{linked_parts}
use Rattle.ac_prune.proofs.families.parts.all_parts.Goals as goal

pub returns-then-are_linked : goal.returns-then-are_linked
returns-then-are_linked c =
    linked_parts (providers_in c.args.choices.now.ledger.now) (cloud_in_order c.args.choices.now.ledger.now.cloud.now).order (asked_in c.args.choices.now.ledger.now) c.args.k c.in_ok-tops.tops.items c.in_ok-parts.parts.items c.requires c.in_ok-parts.ensures c.in_ok-tops.ensures.tops
    (rw (c.deref-2.ensures.value, c.deref-3.ensures.value) at (c.are_linked.ensures c.if-are_linked.true))
