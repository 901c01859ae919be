use Rattle.std.proofs.Common.{[], List, ℕ, ap, arith, false, get_or, length, map}
use Rattle.ac_query.specs.Shown.{suffixes_shown}
use Rattle.ac_report.specs.Findings.Explanation.Candidates.{subtree_line}
use Rattle.ac_report.proofs.FoundTexts.SlotsWritten.{mapped_at, place_stopped, place_written}
use Rattle.ac_report.proofs.findings.explanation.without.push_subtrees.Goals as goal

pub returns-in_err-push_subtree : goal.returns-in_err-push_subtree
returns-in_err-push_subtree g c =
    let found = c.args.found.now in
    let k = c.loop-k.k in
    let is = mapped_at suffixes_shown c.args.lists.now k c.index-lists-k.result [] c.index-lists-k.is (omega (arith, c.loop-k-test.true, c.requires)) in
    place_stopped (λ (k : ℕ). subtree_line (get_or (map suffixes_shown c.args.lists.now) k []) (get_or found k false)) k (length found)
    (omega (arith, c.loop-k-test.true)) (ap (λ (s : List (List ℕ)). subtree_line s (get_or found k false)) is) c.loop-k.invariant _ c.in_err-push_subtree.ensures c.from_residual.ensures.1

pub loop-k-preserved : goal.loop-k-preserved
loop-k-preserved g c =
    let found = c.args.found.now in
    let k = c.loop-k.k in
    let is = mapped_at suffixes_shown c.args.lists.now k c.index-lists-k.result [] c.index-lists-k.is (omega (arith, c.loop-k-test.true, c.requires)) in
    place_written (λ (k : ℕ). subtree_line (get_or (map suffixes_shown c.args.lists.now) k []) (get_or found k false)) k (length found)
    (omega (arith, c.loop-k-test.true)) (ap (λ (s : List (List ℕ)). subtree_line s (get_or found k false)) is) c.loop-k.invariant c.in_ok-push_subtree.ensures
