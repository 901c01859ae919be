use Rattle.std.proofs.Common.{◌∙◌, ◌++◌, ◌∷◌, [], List, ℕ, length, ap, sym, subst, arith}
use Rattle.std.proofs.lemmas.List.{with_items_is}
use Rattle.ac_rules.specs.Placed.{assigned}
use Rattle.ac_prune.specs.Marks.{AreMarks, AreHits}
use Rattle.ac_prune.specs.Left.Accounts.{providers_in, asked_in}
use Rattle.ac_prune.proofs.Paths.LedgerLemmas.{few_slots, row_low, left_next, lone_at, room_for, room_to_mark, marks_next, hits_next}
use Rattle.ac_prune.proofs.Paths.MarkLemmas.{anchors_available, fronts_next}
use Rattle.ac_rules.proofs.EachSlot.AnchorLemmas.{anchors_within}
use Rattle.ac_prune.proofs.ledger.Ledger.take.Goals as goal

pub take-requires : goal.take-requires
take-requires c =
    let l = c.args.self.now in
    let q = c.args.front.now in
    record {
      within = rw (c.deref_mut.ensures.value, c.deref.ensures.value, c.row-row.ensures) (row_low l (length q) c.args.ix c.index.result.now c.requires.slots c.requires.provider c.index.ensures);
      room = rw (c.deref_mut.ensures.value, c.deref.ensures.value, c.row-row.ensures) (room_for l q c.args.ix c.index.result.now c.requires.slots c.requires.provider c.requires.accounts c.requires.open c.index.ensures);
    }

pub mark-requires-clause-room : goal.mark-requires-clause-room
mark-requires-clause-room c =
    let few = room_to_mark c.args.self.now c.args.front.now c.args.ix c.requires.slots c.requires.provider c.requires.accounts in
    rw c.deref_mut-2.ensures.value (omega (arith, few))

pub hit-requires : goal.hit-requires
hit-requires c =
    let l = c.args.self.now in
    record {
      hits = ap length c.deref_mut-3.ensures.value ∙ l.met;
      roots = rw c.anchors-roots.ensures (anchors_within (providers_in l) c.narrower-other.result);
      other = rw c.anchors-roots.ensures (anchors_available (providers_in l) c.narrower-other.result);
      provider = c.requires.provider;
      few = omega (arith, c.requires.slots, few_slots l.query.now);
    }

pub returns-clause-accounts : goal.returns-clause-accounts
returns-clause-accounts c =
    let l = c.args.self.now in
    let all = providers_in l in
    let asked = asked_in l in
    let q = c.args.front.now in
    let p = c.args.ix in
    let rooms = with_items_is l.rooms c.take.new.rooms (c.take.auto.rooms ∙ omega (arith, ap length c.deref_mut.ensures.value, l.rooms.ok)) in
    let marks = with_items_is l.marks c.mark.new.marks (c.mark.auto.marks ∙ omega (arith, ap length c.deref_mut-2.ensures.value, l.marks.ok)) in
    let hits = with_items_is l.hits c.hit.new.hits (c.hit.auto.hits ∙ omega (arith, ap length c.deref_mut-3.ensures.value, l.hits.ok)) in
    record {
      left = rw rooms (left_next l q p c.index.result.now c.take.new.rooms c.requires.slots c.index.ensures (rw (c.deref_mut.ensures.value, c.deref.ensures.value, c.row-row.ensures) at c.take.ensures) c.requires.accounts);
      marks = subst (λ (m : List ℕ). AreMarks all asked m (assigned asked (q ++ p ∷ []))) (sym marks)
          (marks_next all asked q p c.index-2.result.now l.marks.items c.mark.new.marks c.requires.slots (lone_at l (length q) c.index-2.result.now c.requires.slots c.index-2.ensures) (rw c.deref_mut-2.ensures.value at c.mark.ensures) c.requires.accounts.marks);
      hits = subst (λ (m : List ℕ). AreHits all m (q ++ p ∷ [])) (sym hits) (hits_next all q p c.narrower-other.result l.hits.items c.hit.new.hits c.narrower-other.ensures.with_all (rw (c.deref_mut-3.ensures.value, c.anchors-roots.ensures) at c.hit.ensures) c.requires.accounts.hits);
      narrowest = fronts_next all l.narrowest.items q p c.narrower-narrowest.result c.requires.accounts.narrowest (omega (arith, c.requires.slots, l.narrowed)) c.narrower-narrowest.ensures.within c.narrower-narrowest.ensures.with_all;
    }
