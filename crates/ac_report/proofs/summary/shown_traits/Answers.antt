use Rattle.std.proofs.Common.{sym}
use Rattle.ac_cloud.specs.Cloud.CloudWorld.{providers_of}
use Rattle.ac_report.proofs.Pages.Showing.{none_shown}
use Rattle.ac_report.proofs.summary.shown_traits.Goals as goal

pub returns-else-traits : goal.returns-else-traits
returns-else-traits c = rw c.if-traits.false (sym (none_shown (providers_of c.args.cloud.now) c.args.ix))
