use Rattle.std.proofs.Common.{arith}
use Rattle.std.proofs.lemmas.Grind.{common_steps}
use Rattle.std.proofs.Common.{◌∙◌, ap, sym}
use Rattle.std.specs.Option.{option_map}
use Rattle.std.proofs.lemmas.List.{map-append}
use Rattle.ac_query.proofs.Values.Items.{has_value, has_none}
use Rattle.ac_query.proofs.Values.Pieces.{next_part}
use Rattle.ac_query.proofs.reading.items.read_list.Goals as goal

pub loop-item-preserved : goal.loop-item-preserved
loop-item-preserved g c = grind (arith, common_steps, has_value, next_part, map-append)

pub returns-in-None-2 : goal.returns-in-None-2
returns-in-None-2 g c =
    has_none g.T.Item.value _ _ _ _ _ (next_part c.loop-item.item-iterator c.next.new.self c.in-Some.item c.loop-item.invariant.0 c.in-Some.ensures.steps) c.loop-item.invariant.1
    (sym c.in_ok-item.ensures ∙ ap (option_map g.T.Item.shown) c.in-None-2.is)
