use Rattle.std.proofs.Common.{ℕ, ◌-◌, List, Result, false, length}
use Rattle.std.specs.List.{filter, range_with_len}
use Rattle.ac_cloud.specs.Cloud.CloudWorld.{providers_of}
use Rattle.ac_report.specs.declared.fault.PageFault.{PageFault}
use Rattle.ac_report.specs.Marks.{IsMarked, is_summarized, summaries}
use Rattle.ac_report.specs.Outcomes.{WritesEach}
use Rattle.ac_report.specs.Texts.{shown_providers, summarized}
use Rattle.ac_report.proofs.page.write_summaries.Given as goal

-- what ends it well from here writes all
abbrev pub invariant-loop-ix : goal.invariant-loop-ix
invariant-loop-ix g l =
    let all = providers_of l.cloud in
    let rest = λ (lists : List (List ℕ)). filter (is_summarized all lists) (range_with_len l.ix (length all - l.ix)) in
    (lists : List (List ℕ)) → IsMarked all lists l.marks → (r : Result Unit PageFault) (new : g.row.W.Denot)
    → WritesEach g.W.Sink.taken g.W.Sink.failures ⊥ l.out new r (λ text. text) (summaries (shown_providers l.traits all) l.later (rest lists))
    → WritesEach g.W.Sink.taken g.W.Sink.failures ⊥ l.fn.out new r (λ text. text) (summaries (shown_providers l.traits all) false (summarized all lists))
