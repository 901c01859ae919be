use Rattle.std.proofs.Common.{◌∙◌, refl}
use Rattle.ac_session.specs.Reading.{feed_in}
use Rattle.ac_cli.proofs.RanTasks.{none_held}
use Rattle.ac_cli.proofs.program.held.Goals as goal

pub returns-in-Ok : goal.returns-in-Ok
returns-in-Ok g c =
    let said = c.run_session.ensures in (
      feed_in c.run_session.new.lines,
      record {
        written_within = λ zero b tell q known few. said.written_within zero b tell q (c.in-Ok.ensures.left ∙ known) few;
        written = λ whole zero b tell q known few. said.written whole zero b tell q (c.in-Ok.ensures.left ∙ known) few;
        unread = λ three. rw (← c.in-Ok.ensures.feed) (said.unread three);
        output = said.output;
        memory = said.memory;
        part_within = λ b tell q known few. said.part_within b tell q (c.in-Ok.ensures.left ∙ known) few;
        part = λ whole b tell q known few. said.part whole b tell q (c.in-Ok.ensures.left ∙ known) few;
        status = said.status;
        failures = said.err_failures;
      },
    )

pub returns-in-Err : goal.returns-in-Err
returns-in-Err g c = (
  c.args.questions,
  none_held g.F.Feed.remaining c.args.inputs.now _ _ (c.tell.ensures.status ∙ c.of.ensures.status) (rw (← c.of.ensures.line) c.tell.ensures.line) refl c.tell.ensures.failures
      g.Q.Feed.remaining g.Q.Feed.failures c.args.questions _ _ _ _ _ (λ b q. tt),
)
