use Rattle.std.proofs.Common.{rules, ◌∙◌, sym}
use Rattle.ac_query.proofs.Values.Pieces.{next_part}
use Rattle.ac_query.specs.Texts.{has_text}
use Rattle.ac_remedies.specs.Queries.Wanted.{forbidden_in}
use Rattle.ac_remedies.proofs.ItemsTold.{first_met, first_passed}
use Rattle.ac_remedies.proofs.NamesOpposed.{among_keys}
use Rattle.ac_remedies.proofs.queries.traits.opposed.Goals as goal

pub returns-then-contains : goal.returns-then-contains
returns-then-contains c =
    let turn = next_part c.loop-item.item-iterator c.next.new.self c.in-Some.item c.loop-item.invariant.0 c.in-Some.ensures.steps in
    let among = among_keys c.in-Some.item.now c.in_ok-names.names.keys _ c.in_ok-names.ensures in
    first_met (has_text (forbidden_in c.args.list.now)) _ _ _ turn _ c.loop-item.invariant.1 (sym among ∙ sym c.contains.ensures ∙ c.if-contains.true)

pub loop-item-preserved : goal.loop-item-preserved
loop-item-preserved c =
    let turn = next_part c.loop-item.item-iterator c.next.new.self c.in-Some.item c.loop-item.invariant.0 c.in-Some.ensures.steps in
    let among = among_keys c.in-Some.item.now c.in_ok-names.names.keys _ c.in_ok-names.ensures in (
      search rules,
      first_passed (has_text (forbidden_in c.args.list.now)) _ _ _ turn _ c.loop-item.invariant.1 (sym among ∙ sym c.contains.ensures ∙ c.if-contains.false),
    )
