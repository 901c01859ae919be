use Rattle.ac_rules.proofs.EachSlot.ClaimLaws.{claims_narrow}
use Rattle.ac_rules.proofs.laws.claims_narrow.Goals as goal

pub returns : goal.returns
returns c = claims_narrow
