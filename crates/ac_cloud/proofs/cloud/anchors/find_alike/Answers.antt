use Rattle.ac_cloud.proofs.Common.{◌≡◌, ◌∙◌, ◌<◌, ℕ, length, sym, ap, [], arith, same_text, get_or-map, list_items, list_of}
use Rattle.ac_cloud.proofs.Places.AnchorLists.{some_place}
use Rattle.ac_cloud.proofs.cloud.anchors.find_alike.Goals as goal

pub returns-then-eq : goal.returns-then-eq
returns-then-eq c =
    let asked = c.args.asked.now in
    let other = c.in_ok-other.field-0.now in
    let inside : other < length c.args.places.now = c.if-other-places.true in
    let room : other < length asked = omega (arith, inside, c.requires) in
    some_place c.args.places.now other (λ (j : ℕ). list_of asked j ≡ c.args.ids.now) inside
    (get_or-map list_items asked other c.index-asked-other.result [] room ∙ ap list_items (sym c.index-asked-other.is) ∙ sym c.as_slice.ensures.value ∙ same_text c.as_slice.result.now c.args.ids.now c.if-eq.ensures)
