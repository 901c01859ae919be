use Rattle.std.proofs.Common.{◌≡◌, ◌<◌, ℕ, List, [], arith, get_or, length, map}
use Rattle.std.proofs.lemmas.List.{length-map}
use Rattle.std.specs.Borrow.{Bor}
use Rattle.ac_base.proofs.Small.{handed_on}
use Rattle.ac_change.specs.Shown.{line_shown}
use Rattle.ac_change.proofs.LinesRead.{bad_ends, bad_goes, bad_tells, said_ends, said_goes}
use Rattle.ac_change.proofs.what_if.read_changes.Goals as goal

abbrev text : Bor (List ℕ) → List ℕ
text t = t.now

pub returns-in_err-read-clause-fault : goal.returns-in_err-read-clause-fault
returns-in_err-read-clause-fault c =
    let texts = map text c.in_ok-lines.lines.items in
    let size = length-map c.in_ok-lines.lines.items text in
    handed_on c.from_residual-in_err-read.result _ _ c.from_residual-in_err-read.ensures.1
    (bad_tells texts c.loop-ix.ix c.line_at.result.now (omega (arith, c.loop-ix-test.true, c.len-ix-end.ensures, size, c.in_ok-lines.lines.ok)) (rw c.deref.ensures.value at c.line_at.ensures) _ c.in_err-read.field-0.0 c.in_err-read.ensures.fault
    c.loop-ix.invariant.fine)

pub loop-ix-preserved : goal.loop-ix-preserved
loop-ix-preserved c =
    let texts = map text c.in_ok-lines.lines.items in
    let size = length-map c.in_ok-lines.lines.items text in
    let inside : c.loop-ix.ix < length texts = omega (arith, c.loop-ix-test.true, c.len-ix-end.ensures, size, c.in_ok-lines.lines.ok) in
    let here : c.line_at.result.now ≡ get_or texts c.loop-ix.ix [] = rw c.deref.ensures.value at c.line_at.ensures in
    record {
      said = said_goes texts c.loop-ix.ix c.line_at.result.now inside here (map line_shown c.loop-ix.changes.items) _ (map line_shown c.in_ok-changes.changes.items) _ c.in_ok-changes.ensures c.in_ok-read.ensures.said c.loop-ix.invariant.said;
      fine = bad_goes texts c.loop-ix.ix c.line_at.result.now inside here _ c.in_ok-read.ensures.ok c.loop-ix.invariant.fine;
    }

pub returns-clause-changes : goal.returns-clause-changes
returns-clause-changes c =
    let texts = map text c.in_ok-lines.lines.items in
    let size = length-map c.in_ok-lines.lines.items text in
    said_ends texts c.loop-ix.ix (map line_shown c.loop-ix.changes.items) _ (omega (arith, c.loop-ix-test.false, c.len-ix-end.ensures, size, c.in_ok-lines.lines.ok)) c.loop-ix.invariant.said

pub returns-clause-ok : goal.returns-clause-ok
returns-clause-ok c =
    let texts = map text c.in_ok-lines.lines.items in
    let size = length-map c.in_ok-lines.lines.items text in
    bad_ends texts c.loop-ix.ix _ (omega (arith, c.loop-ix-test.false, c.len-ix-end.ensures, size, c.in_ok-lines.lines.ok)) c.loop-ix.invariant.fine
