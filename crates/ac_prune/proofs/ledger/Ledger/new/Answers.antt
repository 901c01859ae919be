use Rattle.std.proofs.Common.{◌∙◌, ℕ, ◌+◌, ◌*◌, ◌<◌, length, map, ap, sym, arith, replicate}
use Rattle.std.proofs.lemmas.List.{length-map}
use Rattle.std.proofs.lemmas.List.Elements.{All-from_recursion}
use Rattle.ac_base.specs.Names.{class_bytes}
use Rattle.ac_query.specs.Shown.Queries.{asked_of}
use Rattle.ac_cloud.specs.Cloud.CloudWorld.{providers_of}
use Rattle.ac_rules.specs.Placed.{slot_at}
use Rattle.ac_rules.specs.Room.{IsKnown, class_number}
use Rattle.ac_prune.specs.Left.{room_on}
use Rattle.ac_rules.proofs.ClassLemmas.{known_at}
use Rattle.ac_prune.proofs.Paths.LedgerLemmas.{left_none, marks_empty, hits_empty}
use Rattle.ac_prune.proofs.ledger.Ledger.new.Goals as goal

pub invariant_of-result : goal.invariant_of-result
invariant_of-result c =
    let all = providers_of c.args.cloud.now in
    let texts = map (λ v. class_bytes v.now) c.in_ok-classes.classes.items in
    let are = rw c.deref-2.ensures.value at c.in_ok-rooms.ensures.rooms in
    record {
      known = λ s h. All-from_recursion (λ need. IsKnown texts need.0) (slot_at (asked_of c.args.query.now) s).needs (c.in_ok-classes.ensures.known s h);
      asked = rw c.deref.ensures.value at c.in_ok-asks.ensures;
      sized = rw c.deref-2.ensures.value at c.in_ok-rooms.ensures.count;
      small = λ k known p h.
          let low : class_number texts k < length c.in_ok-classes.classes.items = omega (arith, known, length-map c.in_ok-classes.classes.items (λ v. class_bytes v.now)) in
          omega (arith, are p (class_number texts k) h low, ap (room_on all p) (known_at texts k known), c.in_ok-rooms.ensures.small (p * length c.in_ok-classes.classes.items + class_number texts k));
      alone = c.in_ok-lone.ensures;
      marked = omega (arith, c.in_ok-marks.marks.ok, c.in_ok-marks.ensures.len, c.len-count.ensures);
      rooted = c.in_ok-taken.ensures;
      met = omega (arith, c.in_ok-hits.hits.ok, c.in_ok-hits.ensures.len, c.len-count.ensures);
      narrowed = omega (arith, c.in_ok-narrowest.narrowest.ok, c.in_ok-narrowest.ensures.len, c.count_slots.ensures.count);
    }

pub returns-clause-accounts : goal.returns-clause-accounts
returns-clause-accounts c =
    let all = providers_of c.args.cloud.now in
    let asked = asked_of c.args.query.now in
    let texts = map (λ v. class_bytes v.now) c.in_ok-classes.classes.items in
    record {
      left = left_none all asked texts (length c.in_ok-classes.classes.items) c.in_ok-rooms.rooms.items (sym (length-map c.in_ok-classes.classes.items (λ v. class_bytes v.now))) (rw c.deref-2.ensures.value at c.in_ok-rooms.ensures.rooms);
      marks = marks_empty all asked c.in_ok-marks.marks.items (c.in_ok-marks.ensures.items_if_clones_equal (λ _ e. e) ∙ ap (λ (n : ℕ). replicate n 0) c.len-count.ensures);
      hits = hits_empty all c.in_ok-hits.hits.items (c.in_ok-hits.ensures.items_if_clones_equal (λ _ e. e) ∙ ap (λ (n : ℕ). replicate n 0) c.len-count.ensures);
      narrowest = record { count = omega arith; within = λ i h. absurd (omega (arith, h)); with_all = λ i h. absurd (omega (arith, h)) };
    }
