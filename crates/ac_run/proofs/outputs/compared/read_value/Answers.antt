use Rattle.std.proofs.Common.{sym, true≢false}
use Rattle.serde_json.specs.View.{view}
use Rattle.ac_run.proofs.Comparing.Reading.{value_known, value_refused}
use Rattle.ac_run.proofs.outputs.compared.read_value.Goals as goal

pub returns-in-Ok-clause-ok : goal.returns-in-Ok-clause-ok
returns-in-Ok-clause-ok c = value_known c.args.text.now (view c.in-Ok.value) c.in-Ok.ensures.ok.0 c.in-Ok.ensures.ok.1

pub returns-else-eq-clause-fault : goal.returns-else-eq-clause-fault
returns-else-eq-clause-fault c malformed =
    value_refused c.args.text.now (c.in-Err.ensures.err (λ memory. absurd (true≢false (sym (rw (c.classify.ensures.memory.1 memory) at c.if-eq.ensures)))))
