use Rattle.std.proofs.Common.{[], slice_index_or}
use Rattle.ac_prune.specs.Left.Accounts.{providers_in, asked_in}
use Rattle.ac_prune.proofs.Roots.FamilyLemmas.{family_made}
use Rattle.ac_prune.proofs.families.Family.new.Goals as goal

pub returns : goal.returns
returns c =
    let l = c.args.choices.now.ledger.now in
    family_made (providers_in l) (asked_in l) (slice_index_or (asked_in l).subtrees c.args.k []) _ c.in_ok-named.ensures (rw c.deref.ensures.value at c.first_marked-first.ensures) c.in_ok-parts.ensures (rw c.deref-3.ensures.value at c.in_ok-places.ensures)
