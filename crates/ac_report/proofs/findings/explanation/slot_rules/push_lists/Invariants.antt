use Rattle.std.proofs.Common.{ℕ, List, codes, drop, map}
use Rattle.std.specs.List.{flat_map}
use Rattle.ac_query.specs.Shown.Groups.{any_of_shown}
use Rattle.ac_report.specs.Findings.Explanation.SlotRules.{some_listed}
use Rattle.ac_report.proofs.FoundTexts.Begun.{IsBegun}
use Rattle.ac_report.proofs.findings.explanation.slot_rules.push_lists.Given as goal

abbrev pub invariant-loop-list : goal.invariant-loop-list
invariant-loop-list g l =
    let told = λ (names : List (List ℕ)). some_listed (codes " required=in:") names in
    IsBegun g.W.Sink.taken g.W.Sink.failures l.fn.out l.out
    (flat_map told (map any_of_shown l.lists)) (flat_map told (map any_of_shown (drop l.list-index l.lists)))
