use Rattle.std.proofs.Common.{option_map}
use Rattle.ac_base.specs.Writing.{TakesLine}
use Rattle.ac_run.specs.Tasks.{paths_shown}
use Rattle.ac_cli.proofs.BesideTold.{told_behind}
use Rattle.ac_cli.proofs.program.tell_unreadable.Goals as goal

pub returns : goal.returns
returns g c =
    told_behind (λ paths. paths_shown paths.now)
    (TakesLine (g.E.Sink.taken c.args.err.now) (g.E.Sink.taken c.tell-2.new.err) (g.E.Sink.failures c.args.err.now) (g.E.Sink.failures c.tell-2.new.err))
    c.args.of c.args.detail c.is_none.result c.args.path.now (option_map (λ r. r.now) c.args.reason) c.unreadable-refusal.result c.unread_remedy-remedy.result c.new.result c.tell-2.result
    c.is_none.ensures c.if-is_none.false c.unreadable-refusal.ensures.line c.unreadable-refusal.ensures.status c.unread_remedy-remedy.ensures.text c.new.ensures c.tell-2.ensures.line c.tell-2.ensures.status
