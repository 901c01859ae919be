use Rattle.ac_cloud.proofs.Common.{◌<◌, length, ◌∙◌, sym, ap, [], arith, get_or-map, list_items, same_text}
use Rattle.ac_cloud.proofs.cloud.kept_lists.Kept.find.Goals as goal

pub returns-then-eq : goal.returns-then-eq
returns-then-eq c =
    let lists = c.args.self.now.lists.items in
    let place = c.in_ok-place.field-0.now in
    let inside : place < length lists = omega (arith, c.if-place-len.true, c.len.ensures) in
    (inside, get_or-map list_items lists place c.index.result.now [] inside ∙ ap list_items (sym c.index.ensures) ∙ sym c.as_slice.ensures.value ∙ same_text c.as_slice.result.now c.args.list.now c.if-eq.ensures)
