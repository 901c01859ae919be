use Rattle.std.proofs.lemmas.Grind.{common_steps}
use Rattle.std.proofs.Common.{◌≡◌, ◌∙◌, ◌++◌, ap, sym, get_or, append_assoc, arith}
use Rattle.std.proofs.lemmas.List.{get_or-map, length-map, take_all}
use Rattle.ac_query.specs.Tokens.{part_text}
use Rattle.ac_query.proofs.WrittenIds.{next_part}
use Rattle.ac_rules.specs.Pages.{ids_of}
use Rattle.ac_cloud.specs.Cloud.CloudWorld.{providers_of}
use Rattle.ac_cloud.specs.World.{id_at}
use Rattle.ac_report.proofs.lines.put_ids.Goals as goal

pub loop-place-preserved : goal.loop-place-preserved
loop-place-preserved c =
    let all = providers_of c.args.cloud.now in
    let list = c.args.list.now in
    let place = c.loop-place.place in
    let id = c.id.result in
    let there : id ≡ get_or (ids_of all list) place id = c.id.ensures ∙ sym (get_or-map (id_at all) list place 0 id (omega arith)) in
    c.in_ok-put_part.ensures
    ∙ ap (λ l. l ++ part_text place id) c.loop-place.invariant
    ∙ append_assoc c.args.text.now.items _ (part_text place id)
    ∙ ap (λ l. c.args.text.now.items ++ l) (sym (next_part (ids_of all list) place id (omega (arith, length-map list (id_at all))) there))

pub returns : goal.returns
returns c = grind (arith, common_steps, take_all, length-map)
