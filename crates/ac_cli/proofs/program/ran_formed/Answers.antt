use Rattle.std.proofs.Common.{◌∙◌, Some, ap, arith, refl, subst, sym}
use Rattle.ac_run.specs.Answer.{answer}
use Rattle.ac_run.specs.Tasks.{task_of}
use Rattle.ac_cli.specs.Forms.{in_form}
use Rattle.ac_cli.specs.InMemory.{written_bytes, written_failures}
use Rattle.ac_cli.specs.Program.{IsShown, seen}
use Rattle.ac_cli.specs.declared.memory.Written.{Written}
use Rattle.ac_cli.proofs.RanForms.{shown_formed, still, taken_first, told_formed, unfailed}
use Rattle.ac_cli.proofs.RanTasks.{none_ran}
use Rattle.ac_cli.proofs.program.ran_formed.Goals as goal

pub returns-then-has_failed-clause-ran : goal.returns-then-has_failed-clause-ran
returns-then-has_failed-clause-ran g c =
    none_ran g.F.Feed.remaining c.args.inputs.now _ _ (c.tell.ensures.status ∙ c.of.ensures.status) (rw (← c.of.ensures.line) c.tell.ensures.line) refl c.tell.ensures.failures _ _ _

pub returns-then-status-gt1-clause-ran : goal.returns-then-status-gt1-clause-ran
returns-then-status-gt1-clause-ran g c =
    let said = c.run-status.ensures in
    let taken : Written → _ = λ w. Some (written_bytes w) in
    told_formed g.F.Feed.remaining g.F.Feed.failures c.args.form (task_of c.args.job.now) c.args.inputs.now c.run-status.new.inputs
    (seen taken written_failures taken written_failures c.new-plain.result c.run-status.new.out c.new-told.result c.run-status.new.err) _ c.run-status.result
    (record {
      written = said.written;
      tables = said.tables;
      query = said.query;
      token = said.token;
      untouched = said.untouched;
      output = said.output;
      memory = said.memory;
      tries = said.tries;
      stopped = said.stopped;
      part = λ late b tell. taken_first (taken c.new-plain.result) (taken c.run-status.new.out) (answer (task_of c.args.job.now) b).output (said.part late b tell);
      status = said.status;
      failures = said.err_failures;
    })
    (ap Some c.new-told.ensures.bytes) c.tell_text.ensures.failures (written_bytes c.run-status.new.err) refl
    (still _ _ c.new-plain.ensures.failures (unfailed _ (sym c.has_failed.ensures ∙ c.if-has_failed.false)))
    (still _ _ c.new-told.ensures.failures (unfailed _ (sym c.has_failed-else-has_failed.ensures ∙ c.if-has_failed-2.false))) (omega arith)
    (rw (← c.bytes.ensures) (record { part = c.tell_text.ensures.part; whole = c.tell_text.ensures.whole })) refl

pub returns-in-Ok-clause-ran : goal.returns-in-Ok-clause-ran
returns-in-Ok-clause-ran g c =
    let said = c.run-status.ensures in
    let taken : Written → _ = λ w. Some (written_bytes w) in
    let written = c.deref.ensures.value ∙ c.in-Ok.ensures ∙ ap (in_form c.args.form) c.bytes-2.ensures in
    shown_formed g.F.Feed.remaining g.F.Feed.failures c.args.form (task_of c.args.job.now) c.args.inputs.now c.run-status.new.inputs
    (seen taken written_failures taken written_failures c.new-plain.result c.run-status.new.out c.new-told.result c.run-status.new.err) _ c.run-status.result
    (record {
      written = said.written;
      tables = said.tables;
      query = said.query;
      token = said.token;
      untouched = said.untouched;
      output = said.output;
      memory = said.memory;
      tries = said.tries;
      stopped = said.stopped;
      part = λ late b tell. taken_first (taken c.new-plain.result) (taken c.run-status.new.out) (answer (task_of c.args.job.now) b).output (said.part late b tell);
      status = said.status;
      failures = said.err_failures;
    })
    (ap Some c.new-told.ensures.bytes) c.show.ensures.failures (written_bytes c.run-status.new.out) (ap Some c.new-plain.ensures.bytes) refl
    (ap taken (said.silent (omega arith))) (omega arith) c.show.result.0
    (subst (λ text. IsShown c.run-status.result text (seen g.W.Sink.taken g.W.Sink.failures g.E.Sink.taken g.E.Sink.failures c.args.out c.show.result.1 c.args.err.now c.show.new.err) c.show.result.0)
    written c.show.ensures.shown)

pub returns-clause-ran : goal.returns-clause-ran
returns-clause-ran g c =
    none_ran g.F.Feed.remaining c.args.inputs.now _ _ (c.tell-in-Err.ensures.status ∙ c.of-in-Err.ensures.status) (rw (← c.of-in-Err.ensures.line) c.tell-in-Err.ensures.line) refl
    c.tell-in-Err.ensures.failures _ _ _
