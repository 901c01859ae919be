use Rattle.std.proofs.Common.{◌≡◌, ◌<◌, ◌∙◌, List, [], ◌∷◌, ℕ, length, length-append, slice_index, ap, sym, subst, arith}
use Rattle.std.specs.List.{All}
use Rattle.std.proofs.lemmas.List.{with_items_is, get_or_read}
use Rattle.ac_rules.specs.Placed.{assigned}
use Rattle.ac_prune.specs.Marks.{AreMarks, AreHits}
use Rattle.ac_prune.specs.Left.Accounts.{providers_in, asked_in}
use Rattle.ac_rules.proofs.EachSlot.AnchorLemmas.{anchors_within}
use Rattle.ac_prune.proofs.Paths.LedgerLemmas.{few_slots, row_low, left_back, lone_at, room_back, mark_there, marks_back, hits_back}
use Rattle.ac_prune.proofs.Paths.MarkLemmas.{whole_with_all, fronts_back}
use Rattle.ac_prune.proofs.ledger.Ledger.give_back.Goals as goal

pub give_back-requires : goal.give_back-requires
give_back-requires c =
    let l = c.args.self.now in
    let q = c.args.front.now in
    record {
      within = rw (c.deref_mut.ensures.value, c.deref.ensures.value, c.row-row.ensures) (row_low l (length q) c.args.ix c.index.result.now c.requires.slots c.requires.provider c.index.ensures);
      room = rw (c.deref_mut.ensures.value, c.deref.ensures.value, c.row-row.ensures) (room_back l q c.args.ix c.index.result.now c.requires.slots c.requires.provider c.requires.accounts c.index.ensures);
    }

pub unmark-requires-clause-there : goal.unmark-requires-clause-there
unmark-requires-clause-there c = λ lone.
    let l = c.args.self.now in
    rw c.deref_mut-2.ensures.value
    (mark_there l c.args.front.now c.args.ix c.requires.slots c.requires.provider c.requires.accounts (sym (lone_at l (length c.args.front.now) c.index-2.result.now c.requires.slots c.index-2.ensures) ∙ lone))

pub anchors-requires : goal.anchors-requires
anchors-requires c =
    let l = c.args.self.now in
    let q = c.args.front.now in
    let is : c.index-other.result.now ≡ slice_index l.narrowest.items (length q) = get_or_read l.narrowest.items _ _ (omega (arith, c.requires.slots, l.narrowed)) c.index-other.ensures 0 in
    rw is (c.requires.accounts.narrowest.within (length q) (omega (arith, length-append q (c.args.ix ∷ []))))

pub unhit-requires-clause-within : goal.unhit-requires-clause-within
unhit-requires-clause-within c =
    let l = c.args.self.now in
    let size : length (providers_in l) ≡ length c.deref_mut-3.result.now = sym l.met ∙ sym (ap length c.deref_mut-3.ensures.value) in
    subst (λ (n : ℕ). All (λ r. r < n) c.anchors.result.now) size (subst (All (λ r. r < length (providers_in l))) (sym c.anchors.ensures) (anchors_within (providers_in l) c.index-other.result.now))

pub unhit-requires-clause-few : goal.unhit-requires-clause-few
unhit-requires-clause-few c = omega (arith, c.requires.slots, few_slots c.args.self.now.query.now)

pub returns-clause-accounts : goal.returns-clause-accounts
returns-clause-accounts c =
    let l = c.args.self.now in
    let all = providers_in l in
    let asked = asked_in l in
    let q = c.args.front.now in
    let p = c.args.ix in
    let is : c.index-other.result.now ≡ slice_index l.narrowest.items (length q) = get_or_read l.narrowest.items _ _ (omega (arith, c.requires.slots, l.narrowed)) c.index-other.ensures 0 in
    let rooms = with_items_is l.rooms c.give_back.new.rooms (c.give_back.auto.rooms ∙ omega (arith, ap length c.deref_mut.ensures.value, l.rooms.ok)) in
    let marks = with_items_is l.marks c.unmark.new.marks (c.unmark.auto.marks ∙ omega (arith, ap length c.deref_mut-2.ensures.value, l.marks.ok)) in
    let hits = with_items_is l.hits c.unhit.new.hits (c.unhit.auto.hits ∙ omega (arith, ap length c.deref_mut-3.ensures.value, l.hits.ok)) in
    record {
      left = rw rooms (left_back l q p c.index.result.now c.give_back.new.rooms c.requires.slots c.index.ensures (rw (c.deref_mut.ensures.value, c.deref.ensures.value, c.row-row.ensures) at c.give_back.ensures) c.requires.accounts);
      marks = subst (λ (m : List ℕ). AreMarks all asked m (assigned asked q)) (sym marks)
          (marks_back all asked q p c.index-2.result.now l.marks.items c.unmark.new.marks c.requires.slots (lone_at l (length q) c.index-2.result.now c.requires.slots c.index-2.ensures) (rw c.deref_mut-2.ensures.value at c.unmark.ensures) c.requires.accounts.marks);
      hits = subst (λ (m : List ℕ). AreHits all m q) (sym hits) (hits_back all q p c.index-other.result.now l.hits.items c.unhit.new.hits (rw is (whole_with_all all l.narrowest.items q p c.requires.accounts.narrowest)) (rw (c.deref_mut-3.ensures.value, c.anchors.ensures) at c.unhit.ensures) c.requires.accounts.hits);
      narrowest = fronts_back all l.narrowest.items q p c.requires.accounts.narrowest;
    }
