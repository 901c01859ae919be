use Rattle.ac_session.proofs.UsageRows.GoOn.{sessions_go_on}
use Rattle.ac_session.proofs.laws.sessions_go_on.Goals as goal

pub returns : goal.returns
returns c = sessions_go_on
