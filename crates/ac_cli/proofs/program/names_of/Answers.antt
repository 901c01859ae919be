use Rattle.std.proofs.Common.{subst, sym}
use Rattle.ac_cli.specs.Files.{ExplainsUnread, missing_reason}
use Rattle.ac_cli.proofs.BesideTold.{absent_holds}
use Rattle.ac_cli.proofs.program.names_of.Goals as goal

pub returns-in-Err-Unopened-text-clause-held : goal.returns-in-Err-Unopened-text-clause-held
unfolding missing_reason
returns-in-Err-Unopened-text-clause-held g c =
    absent_holds (g.H.Host.opens c.args.host.now) (g.H.Host.refuses c.args.host.now) g.H.File.Feed.remaining c.args.words.now.names c.names.result c.args.words.now.aggregate_names
    c.in-Some.path.now c.in-Err-Unopened-text.field-0-0.now c.names.ensures c.if-not-names.false (sym c.in-Some.ensures) (subst (ExplainsUnread (g.H.Host.opens c.args.host.now) (g.H.Host.refuses c.args.host.now) g.H.File.Feed.remaining g.H.File.Feed.failures c.in-Some.path.now)
    c.in-Err-Unopened-text.field-0-is c.in-Err-Unopened-text.ensures.fault) c.in-Err-Unopened-text.is-text
