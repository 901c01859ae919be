use Rattle.std.proofs.Common.{arith}
use Rattle.ac_base.specs.Texts.{id_text}
use Rattle.ac_report.proofs.FoundTexts.Begun.{begun_stops}
use Rattle.ac_report.proofs.FoundTexts.ItemsWritten.{item_turn, listed_first}
use Rattle.ac_report.proofs.findings.explanation.nobody.push_ids.Goals as goal

pub returns-in_err-push_marked : goal.returns-in_err-push_marked
returns-in_err-push_marked g c =
    let here = item_turn c.args.ids.now c.loop-id.id-index c.id-item.result (omega arith) c.id-item.is in
    begun_stops _ _ record {
      leaves = listed_first _ _ _ id_text _ _ _ _ c.id-item.result here c.text.ensures c.loop-id.invariant.leaves;
      failures = c.loop-id.invariant.failures;
    } _ c.in_err-push_marked.ensures c.from_residual.ensures.1
