use Rattle.std.proofs.Common.{◌-◌, [], false, get_or, length, map}
use Rattle.std.specs.List.{flat_map, range_with_len}
use Rattle.ac_query.specs.Shown.{suffixes_shown}
use Rattle.ac_report.specs.Findings.Explanation.Candidates.{subtree_line, subtree_lines}
use Rattle.ac_report.proofs.FoundTexts.Begun.{IsBegun}
use Rattle.ac_report.proofs.findings.explanation.without.push_subtrees.Given as goal

abbrev pub invariant-loop-k : goal.invariant-loop-k
invariant-loop-k g l =
    let lists = map suffixes_shown l.lists in
    IsBegun g.W.Sink.taken g.W.Sink.failures l.fn.out l.out
    (subtree_lines lists l.found) (flat_map (λ k. subtree_line (get_or lists k []) (get_or l.found k false)) (range_with_len l.k (length l.found - l.k)))
