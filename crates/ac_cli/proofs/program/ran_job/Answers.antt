use Rattle.std.proofs.Common.{◌∙◌}
use Rattle.ac_cli.proofs.program.ran_job.Goals as goal

pub returns : goal.returns
returns g c =
    record {
      err = g.E.Sink.taken c.ran-status.new.err;
      count = g.E.Sink.failures c.ran-status.new.err;
      later = c.tell_text.ensures.failures;
      ran = c.ran-status.ensures.ran;
      said = c.deref.result.now;
      tied = λ small b tell. c.deref.ensures.value ∙ c.ran-status.ensures.note small b tell;
      note = rw (← c.note_behind.ensures) (record { part = c.tell_text.ensures.part; whole = c.tell_text.ensures.whole });
    }
