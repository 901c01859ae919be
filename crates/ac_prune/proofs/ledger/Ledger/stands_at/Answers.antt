use Rattle.std.proofs.Common.{◌∙◌, length, ap}
use Rattle.ac_prune.specs.Left.Accounts.{providers_in}
use Rattle.ac_rules.proofs.EachSlot.AnchorLemmas.{anchors_within}
use Rattle.ac_prune.proofs.Paths.MarkLemmas.{anchors_available, stand_next}
use Rattle.ac_prune.proofs.ledger.Ledger.stands_at.Goals as goal

pub has_full-requires : goal.has_full-requires
has_full-requires c =
    let l = c.args.self.now in
    record {
      hits = ap length c.deref.ensures.value ∙ l.met;
      marks = c.requires.marks;
      roots = rw c.anchors-roots.ensures (anchors_within (providers_in l) c.narrower-other.result);
      other = rw c.anchors-roots.ensures (anchors_available (providers_in l) c.narrower-other.result);
      provider = c.requires.provider;
    }

pub returns : goal.returns
returns c =
    let l = c.args.self.now in
    rw (c.deref.ensures.value, c.anchors-roots.ensures) at c.has_full.ensures
    ∙ stand_next (providers_in l) c.args.marks.now c.args.front.now c.args.ix c.narrower-other.result l.hits.items c.requires.accounts.hits c.narrower-other.ensures.with_all
