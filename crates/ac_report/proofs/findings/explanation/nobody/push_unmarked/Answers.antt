use Rattle.std.proofs.Common.{[], List, ℕ, ap, arith, false, get_or, length, map}
use Rattle.std.proofs.lemmas.List.{length-map}
use Rattle.ac_base.specs.Names.{trait_bytes}
use Rattle.ac_report.specs.Findings.Explanation.Nobody.{line_of, unless}
use Rattle.ac_report.proofs.FoundTexts.SlotsWritten.{mapped_at, place_stopped, place_written}
use Rattle.ac_report.proofs.findings.explanation.nobody.push_unmarked.Goals as goal

pub returns-in_err-push_unless : goal.returns-in_err-push_unless
returns-in_err-push_unless g c =
    let names = c.args.names.now in
    let marks = c.args.marks.now in
    let k = c.loop-k.k in
    let is = mapped_at trait_bytes names k c.index-names-k.result [] c.index-names-k.is (omega (arith, c.loop-k-test.true)) in
    place_stopped (λ (k : ℕ). unless (get_or marks k false) (line_of c.args.front.now (get_or (map trait_bytes names) k []))) k (length (map trait_bytes names))
    (omega (arith, c.loop-k-test.true, length-map names trait_bytes)) (ap (λ (s : List ℕ). unless (get_or marks k false) (line_of c.args.front.now s)) is)
    c.loop-k.invariant _ c.in_err-push_unless.ensures c.from_residual.ensures.1

pub loop-k-preserved : goal.loop-k-preserved
loop-k-preserved g c =
    let names = c.args.names.now in
    let marks = c.args.marks.now in
    let k = c.loop-k.k in
    let is = mapped_at trait_bytes names k c.index-names-k.result [] c.index-names-k.is (omega (arith, c.loop-k-test.true)) in
    place_written (λ (k : ℕ). unless (get_or marks k false) (line_of c.args.front.now (get_or (map trait_bytes names) k []))) k (length (map trait_bytes names))
    (omega (arith, c.loop-k-test.true, length-map names trait_bytes)) (ap (λ (s : List ℕ). unless (get_or marks k false) (line_of c.args.front.now s)) is)
    c.loop-k.invariant c.in_ok-push_unless.ensures
