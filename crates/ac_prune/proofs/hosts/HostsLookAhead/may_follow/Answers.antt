use Rattle.std.proofs.Common.{◌∙◌, ◌∷◌, ◌++◌, [], sym, ap, length}
use Rattle.ac_prune.specs.Left.Accounts.{providers_in, asked_in}
use Rattle.ac_prune.proofs.Roots.RootLemmas.{root_dead}
use Rattle.ac_prune.proofs.hosts.HostsLookAhead.may_follow.Goals as goal

pub stands_at-requires-clause-marks : goal.stands_at-requires-clause-marks
stands_at-requires-clause-marks c = ap length c.deref.ensures.value ∙ c.requires.of.count

pub returns : goal.returns
returns c = record {
  dead = λ h.
      let f = c.args.front.now in
      let l = f.ledger.now in
      root_dead (providers_in l) (asked_in l) (f.path.now ++ c.args.provider ∷ []) c.args.self.now.may.items c.requires.of
      (sym (rw c.deref.ensures.value at c.stands_at.ensures) ∙ h);
}
