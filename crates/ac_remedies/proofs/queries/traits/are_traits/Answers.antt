use Rattle.std.proofs.Common.{◌∙◌, sym}
use Rattle.ac_query.proofs.Values.Pieces.{next_part}
use Rattle.ac_remedies.specs.Queries.Wanted.{is_marked}
use Rattle.ac_remedies.proofs.ItemsTold.{all_failed}
use Rattle.ac_remedies.proofs.queries.traits.are_traits.Goals as goal

pub returns-then-not-branch : goal.returns-then-not-branch
returns-then-not-branch c =
    let turn = next_part c.loop-item.item-iterator c.next.new.self c.in-Some.item c.loop-item.invariant.0 c.in-Some.ensures.steps in
    all_failed is_marked _ _ _ turn _ c.loop-item.invariant.1 (sym c.in_ok-is_marked.ensures ∙ c.if-not-branch.true)
