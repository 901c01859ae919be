use Rattle.std.proofs.Common.{codes, drop, map}
use Rattle.std.specs.List.{flat_map}
use Rattle.ac_query.specs.Shown.Groups.{need_entry}
use Rattle.ac_report.specs.Findings.Asks.{need_text, needs_text}
use Rattle.ac_report.proofs.FoundTexts.Begun.{IsBegun}
use Rattle.ac_report.proofs.findings.asks.push_needs.Given as goal

abbrev pub invariant-loop-need : goal.invariant-loop-need
invariant-loop-need g l = IsBegun g.W.Sink.taken g.W.Sink.failures l.fn.out l.out
    (needs_text l.mark (map need_entry l.needs)) (flat_map (λ need. need_text (codes ",") need) (map need_entry (drop l.need-index l.others)))
