use Rattle.std.proofs.Common.{◌∙◌, ap, arith, refl, sym}
use Rattle.std.proofs.KnownBytes.{Keeps-refl}
use Rattle.ac_base.proofs.HandedOn.{from_err, from_ok, later_rise, part_more, same_rise, text_more, whole_text}
use Rattle.ac_base.specs.Gathered.Below.{sink_below}
use Rattle.ac_cli.proofs.RanTasks.{none_ran}
use Rattle.ac_cli.proofs.program.ran_gathered.Goals as goal

pub returns-in_default-clause-ran : goal.returns-in_default-clause-ran
returns-in_default-clause-ran g c =
    none_ran g.F.Feed.remaining c.args.inputs.now _ _ (c.tell.ensures.status ∙ c.of.ensures.status) (rw (← c.of.ensures.line) c.tell.ensures.line) refl c.tell.ensures.failures _ _ _

pub returns-then-status-gt1-clause-ran : goal.returns-then-status-gt1-clause-ran
returns-then-status-gt1-clause-ran g c =
    let said = c.run-status.ensures in
    record {
      written = λ small. absurd (omega arith);
      tables = said.tables;
      query = said.query;
      token = said.token;
      untouched = λ low high. rw (c.into_inner.ensures.below ∙ ap sink_below (said.same low high) ∙ c.new-gathering.ensures.below) (Keeps-refl _);
      output = λ six. (same_rise _ _ _ _ c.new-gathering.ensures.failures (sym c.into_inner.ensures.failures) (said.output six).0, (said.output six).1);
      memory = said.memory;
      tries = said.tries;
      stopped = said.stopped;
      part = λ high b tell. part_more (g.W.Sink.taken c.args.out) _ _ (g.W.Sink.taken c.into_inner.result) _ c.new-gathering.ensures.taken (said.part high b tell) c.into_inner.ensures.part;
      status = said.status;
      failures = said.err_failures;
    }

pub returns-then-status-eq8-clause-ran : goal.returns-then-status-eq8-clause-ran
returns-then-status-eq8-clause-ran g c =
    let said = c.run-status.ensures in
    record {
      written = λ small. absurd (omega arith);
      tables = λ three. absurd (omega arith);
      query = λ four. absurd (omega arith);
      token = λ five. absurd (omega arith);
      untouched = λ low high. absurd (omega arith);
      output = λ six. absurd (omega arith);
      memory = λ seven. absurd (omega arith);
      tries = said.tries;
      stopped = said.stopped;
      part = λ high b tell. part_more (g.W.Sink.taken c.args.out) _ _ (g.W.Sink.taken c.finish-out.result.1) _ c.new-gathering.ensures.taken (said.part high b tell) c.finish-out.ensures.part;
      status = said.status;
      failures = said.err_failures;
    }

pub returns-in-Ok-default-clause-ran : goal.returns-in-Ok-default-clause-ran
returns-in-Ok-default-clause-ran g c =
    let said = c.run-status.ensures in
    record {
      written = λ small b tell. let answered = said.written small b tell in record {
        output = whole_text (g.W.Sink.taken c.args.out) _ _ (g.W.Sink.taken c.finish.result.1) _ c.new-gathering.ensures.taken answered.output
            (from_ok c.finish.result.0 _ _ c.in-Ok-default.is-0 c.finish.ensures.ok);
        line = answered.line;
        status = answered.status;
      };
      tables = λ three. absurd (omega arith);
      query = λ four. absurd (omega arith);
      token = λ five. absurd (omega arith);
      untouched = λ low high. absurd (omega arith);
      output = λ six. absurd (omega arith);
      memory = λ seven. absurd (omega arith);
      tries = λ eight. absurd (omega arith);
      stopped = λ eight. absurd (omega arith);
      part = λ late. absurd (omega arith);
      status = said.status;
      failures = said.err_failures;
    }

pub returns-in-Err-default-clause-ran : goal.returns-in-Err-default-clause-ran
returns-in-Err-default-clause-ran g c =
    let said = c.run-status.ensures in
    let six = c.tell-in-Err-default.ensures.status ∙ c.of-in-Err-default.ensures.status in
    record {
      written = λ small. absurd (omega (arith, six));
      tables = λ three. absurd (cc);
      query = λ four. absurd (cc);
      token = λ five. absurd (cc);
      untouched = λ low high. absurd (omega (arith, six, high));
      output = λ _. (
        same_rise _ _ _ _ c.new-gathering.ensures.failures refl
            (later_rise _ _ _ said.failures c.finish.ensures.failures (from_err c.finish.result.0 _ _ c.in-Err-default.is-0 c.finish.ensures.rises)),
        rw (← c.of-in-Err-default.ensures.line, ← said.silent (omega arith)) c.tell-in-Err-default.ensures.line,
      );
      memory = λ seven. absurd (cc);
      tries = λ eight. absurd (cc);
      stopped = λ eight. absurd (cc);
      part = λ late b tell. text_more (g.W.Sink.taken c.args.out) _ _ (g.W.Sink.taken c.finish.result.1) _ c.new-gathering.ensures.taken (said.written (omega arith) b tell).output c.finish.ensures.part;
      status = rw six (5, omega arith, refl);
      failures = omega (arith, said.err_failures, c.tell-in-Err-default.ensures.failures);
    }
