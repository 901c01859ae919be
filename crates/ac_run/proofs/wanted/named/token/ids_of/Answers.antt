use Rattle.std.proofs.Common.{◌∙◌, ◌∷◌, ap, drop, sym}
use Rattle.csv.specs.Records.{Row, field_at, fields_of}
use Rattle.ac_remedies.proofs.FieldsJoined.{next_field, no_field}
use Rattle.ac_report.specs.Called.{stands_for}
use Rattle.ac_run.specs.Wanted.Named.{ids_each}
use Rattle.ac_run.proofs.EachFound.{all_found, found_behind, has_fault, has_found}
use Rattle.ac_run.proofs.wanted.named.token.ids_of.Goals as goal

pub loop-field-preserved : goal.loop-field-preserved
loop-field-preserved c =
    let fields = fields_of c.args.row.now in
    let it = c.loop-field.field-iterator in
    let step = c.in-Some.ensures.steps in
    let turn = next_field fields it.at c.in-Some.field.now (step.1 ∙ ap (λ (r : Row). field_at (fields_of r) it.at) c.loop-field.invariant.0) in (
      ap (λ r. r.now) step.0 ∙ c.loop-field.invariant.0,
      λ called are.
          let is = sym (c.find.ensures called are) ∙ c.in-Ok.is in
          has_found (stands_for called) c.loop-field.ids.items (drop it.at fields) (drop c.next.new.self.at fields) c.in-Some.field.now (ids_each called fields)
          (turn ∙ ap (λ at. c.in-Some.field.now ∷ drop at fields) (sym step.2)) (c.loop-field.invariant.1 called are) c.push.new.self.items c.in-Ok.id is c.in_ok-push-in-Ok.ensures.items,
    )

pub returns-in-Err-clause-fault : goal.returns-in-Err-clause-fault
returns-in-Err-clause-fault c called are =
    let fields = fields_of c.args.row.now in
    let it = c.loop-field.field-iterator in
    let turn = next_field fields it.at c.in-Some.field.now (c.in-Some.ensures.steps.1 ∙ ap (λ (r : Row). field_at (fields_of r) it.at) c.loop-field.invariant.0) in
    has_fault (stands_for called) c.loop-field.ids.items (drop it.at fields) _ c.in-Some.field.now (ids_each called fields) turn
    (c.loop-field.invariant.1 called are) c.in-Err.fault (sym (c.find.ensures called are) ∙ c.in-Err.is)

pub returns-clause-ids : goal.returns-clause-ids
returns-clause-ids c called are =
    let fields = fields_of c.args.row.now in
    let it = c.loop-field.field-iterator in
    let none = no_field fields it.at (c.in-None.ensures.steps.1 ∙ ap (λ (r : Row). field_at (fields_of r) it.at) c.loop-field.invariant.0) in
    sym (c.loop-field.invariant.1 called are) ∙ ap (found_behind (stands_for called) c.loop-field.ids.items) none ∙ all_found (stands_for called) c.loop-field.ids.items
