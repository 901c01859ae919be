use Rattle.std.proofs.Common.{◌∙◌}
use Rattle.std.specs.Map.Iter.{deref}
use Rattle.std.proofs.lemmas.Map.Iter.{rest_more}
use Rattle.ac_base.specs.Names.{suffix_bytes}
use Rattle.ac_report.proofs.FoundTexts.Begun.{begun_more, begun_stops}
use Rattle.ac_report.proofs.FoundTexts.ItemsWritten.{listed_first}
use Rattle.ac_report.proofs.findings.explanation.without.push_suffixes.Goals as goal

pub returns-in_err-push_marked : goal.returns-in_err-push_marked
returns-in_err-push_marked g c =
    let here = rest_more deref c.loop-suffix.suffix-iterator c.next.new.self c.next.result c.in-Some.suffix c.in-Some.is c.next.ensures.steps in
    begun_stops _ _ record {
      leaves = listed_first _ _ _ suffix_bytes _ _ _ _ c.in-Some.suffix.now here (c.as_bytes.ensures.value ∙ c.text.ensures) c.loop-suffix.invariant.leaves;
      failures = c.loop-suffix.invariant.failures;
    } _ c.in_err-push_marked.ensures c.from_residual.ensures.1

pub loop-suffix-preserved : goal.loop-suffix-preserved
loop-suffix-preserved g c =
    let here = rest_more deref c.loop-suffix.suffix-iterator c.next.new.self c.next.result c.in-Some.suffix c.in-Some.is c.next.ensures.steps in
    begun_more _ _ record {
      leaves = listed_first _ _ _ suffix_bytes _ _ _ _ c.in-Some.suffix.now here (c.as_bytes.ensures.value ∙ c.text.ensures) c.loop-suffix.invariant.leaves;
      failures = c.loop-suffix.invariant.failures;
    } c.in_ok-push_marked.ensures
