use Rattle.std.proofs.Common.{◌≡◌, ◌∙◌, ◌++◌, ◌+◌, ◌*◌, ℕ, List, [], length, map, inl, inr, ap, sym, arith, slice_index, slice_index_or, length-append}
use Rattle.std.proofs.lemmas.Bool.{cases_eq}
use Rattle.std.proofs.lemmas.List.{length-map, get_or-map, get_or_append_left, get_or-append-add}
use Rattle.std.proofs.lemmas.Simd.{map-map}
use Rattle.std.proofs.lemmas.Nat.{mul-add-lt}
use Rattle.ac_base.specs.Names.{class_bytes}
use Rattle.ac_cloud.specs.Cloud.CloudWorld.{providers_of}
use Rattle.ac_prune.specs.Left.{room_on}
use Rattle.ac_prune.proofs.ledger.rooms.all_rooms.Goals as goal

pub loop-ix-preserved : goal.loop-ix-preserved
loop-ix-preserved c =
    let classes = c.args.classes.now in
    let all = providers_of c.args.cloud.now in
    let texts = map (λ v. class_bytes v.now) classes in
    let w = length classes in
    let ix = c.loop-ix.ix in
    let old = c.loop-ix.rooms.items in
    let row = map (λ v. room_on all ix (class_bytes v.now)) classes in
    record {
      count = grind (arith, c.in_ok-push_row.ensures.rooms, length-append, length-map, c.loop-ix.invariant.count);
      rooms = λ p k h low. rw c.in_ok-push_row.ensures.rooms (elim (cases_eq p ix) [
        | inl e ↦
            let at : p * w + k ≡ length old + k = omega (arith, c.loop-ix.invariant.count, ap (λ (n : ℕ). n * w) e) in
            ap (slice_index (old ++ row)) at
            ∙ (get_or-append-add old row k 0
            ∙ (ap (λ (xs : List ℕ). slice_index xs k) (sym (map-map (room_on all ix) (λ v. class_bytes v.now) classes))
            ∙ (get_or-map (room_on all ix) texts k [] 0 (omega (arith, low, length-map classes (λ v. class_bytes v.now))) ∙ ap (λ (q : ℕ). room_on all q (slice_index_or texts k [])) (sym e))))
        | inr e ↦ get_or_append_left old row 0 (p * w + k) (omega (arith, mul-add-lt p w k ix (omega (arith, h, e)) low, c.loop-ix.invariant.count)) ∙ c.loop-ix.invariant.rooms p k (omega (arith, h, e)) low
      ]);
      small = c.in_ok-push_row.ensures.small;
    }
