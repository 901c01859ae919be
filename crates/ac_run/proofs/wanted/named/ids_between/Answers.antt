use Rattle.std.proofs.Common.{◌∙◌, ap, arith, sym}
use Rattle.std.proofs.lemmas.Grind.{common_steps}
use Rattle.ac_query.proofs.Values.Pieces.{next_part, parts_left}
use Rattle.ac_query.specs.Texts.{items_of}
use Rattle.ac_report.specs.Called.{stands_for}
use Rattle.ac_run.specs.Wanted.Named.{ids_each}
use Rattle.ac_run.proofs.EachFound.{has_fault, has_found}
use Rattle.ac_run.proofs.wanted.named.ids_between.Goals as goal

pub loop-item-preserved : goal.loop-item-preserved
loop-item-preserved c =
    let it = c.loop-item.item-iterator in
    let turn = next_part it c.next.new.self c.in-Some.item c.loop-item.invariant.0 c.in-Some.ensures.steps in (
      grind (arith, common_steps),
      λ called are.
          let is = ap (stands_for called) (sym c.as_bytes.ensures.value) ∙ sym (c.find.ensures called are) ∙ c.in-Ok.is in
          has_found (stands_for called) c.loop-item.ids.items (parts_left it) (parts_left c.next.new.self) c.in-Some.item.now (ids_each called (items_of c.args.text.now)) turn
          (c.loop-item.invariant.1 called are) c.push.new.self.items c.in-Ok.id is c.in_ok-push-in-Ok.ensures.items,
    )

pub returns-in-Err-clause-fault : goal.returns-in-Err-clause-fault
returns-in-Err-clause-fault c called are =
    let it = c.loop-item.item-iterator in
    let turn = next_part it c.next.new.self c.in-Some.item c.loop-item.invariant.0 c.in-Some.ensures.steps in
    let is = ap (stands_for called) (sym c.as_bytes.ensures.value) ∙ sym (c.find.ensures called are) ∙ c.in-Err.is in
    has_fault (stands_for called) c.loop-item.ids.items (parts_left it) (parts_left c.next.new.self) c.in-Some.item.now (ids_each called (items_of c.args.text.now)) turn
    (c.loop-item.invariant.1 called are) c.in-Err.fault is
