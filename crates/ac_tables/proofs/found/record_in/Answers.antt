use Rattle.ac_tables.proofs.Common.{◌≡◌, ◌∙◌, ◌+◌, ◌-◌, suc, ap, sym, arith, rules, true, false, rows_left}
use Rattle.std.specs.List.{slice_get}
use Rattle.ac_tables.proofs.FoundRows.{row_behind, row_first, row_none}
use Rattle.ac_tables.proofs.found.record_in.Goals as goal

pub loop-turn-preserved : goal.loop-turn-preserved
loop-turn-preserved c =
    let some : c.in_ok-next_row.field-0 ≡ true = search (rules) in
    let ahead : c.args.number - c.loop-turn._turn ≡ suc (c.args.number - (c.loop-turn._turn + 1)) = omega (arith, c.loop-turn-test.true) in
    record {
      reading = c.in_ok-next_row.ensures.goes_on some;
      wanted = sym (row_behind _ _ _ c.in_ok-next_row.field-0 (c.args.number - (c.loop-turn._turn + 1)) c.in_ok-next_row.ensures.gives some)
          ∙ ap (slice_get (rows_left c.loop-turn.reader)) (sym ahead) ∙ c.loop-turn.invariant.wanted;
    }

pub returns-then-not-branch : goal.returns-then-not-branch
returns-then-not-branch c =
    let none : c.in_ok-next_row.field-0 ≡ false = search (rules) in
    sym (row_none _ _ _ c.in_ok-next_row.field-0 _ c.in_ok-next_row.ensures.gives none) ∙ c.loop-turn.invariant.wanted

pub returns-then-branch : goal.returns-then-branch
returns-then-branch c =
    let last : c.args.number - c.loop-turn._turn ≡ 0 = omega (arith, c.loop-turn-test.false) in
    sym (row_first _ _ _ c.in_ok-next_row-2.field-0 c.in_ok-next_row-2.ensures.gives c.if-branch.true)
    ∙ ap (slice_get (rows_left c.loop-turn.reader)) (sym last) ∙ c.loop-turn.invariant.wanted

pub returns : goal.returns
returns c = sym (row_none _ _ _ c.in_ok-next_row-2.field-0 _ c.in_ok-next_row-2.ensures.gives c.if-branch.false) ∙ c.loop-turn.invariant.wanted
