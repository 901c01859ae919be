use Rattle.std.proofs.Common.{◌-◌, [], false, get_or, length, map}
use Rattle.std.specs.List.{flat_map, range_with_len}
use Rattle.ac_base.specs.Names.{trait_bytes}
use Rattle.ac_report.specs.Findings.Explanation.Nobody.{line_of, unless, unmarked_lines}
use Rattle.ac_report.proofs.FoundTexts.Begun.{IsBegun}
use Rattle.ac_report.proofs.findings.explanation.nobody.push_unmarked.Given as goal

abbrev pub invariant-loop-k : goal.invariant-loop-k
invariant-loop-k g l =
    let names = map trait_bytes l.names in
    IsBegun g.W.Sink.taken g.W.Sink.failures l.fn.out l.out
    (unmarked_lines l.front names l.marks)
    (flat_map (λ k. unless (get_or l.marks k false) (line_of l.front (get_or names k []))) (range_with_len l.k (length names - l.k)))
