use Rattle.std.proofs.Common.{◌∙◌, ◌<◌, ◌++◌, ap, arith, length, map, sym}
use Rattle.std.specs.String.{string_bytes}
use Rattle.std.proofs.lemmas.List.{get_or-map, length-map}
use Rattle.ac_base.specs.Names.{trait_bytes}
use Rattle.ac_find.specs.Details.{part_text}
use Rattle.ac_find.proofs.DetailsWritten.{next_behind}
use Rattle.ac_find.proofs.details.traits.push_names.Goals as goal

pub loop-place-preserved : goal.loop-place-preserved
loop-place-preserved c =
    let names = c.args.names.now in
    let name = c.index-names-place.result in
    let place = c.loop-place.place in
    let low : place < length (map trait_bytes names) = omega (arith, length-map names trait_bytes, c.loop-place-test.true) in
    let is = ap trait_bytes c.index-names-place.is ∙ sym (get_or-map trait_bytes names place name (trait_bytes name) (omega (arith, c.loop-place-test.true))) in
    c.in_ok-push_part.ensures ∙ ap (λ t. string_bytes c.loop-place.text ++ part_text place t) c.text.ensures
    ∙ next_behind (string_bytes c.args.text.now) (map trait_bytes names) place (trait_bytes name) (string_bytes c.loop-place.text) low is c.loop-place.invariant
