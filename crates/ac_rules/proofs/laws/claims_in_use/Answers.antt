use Rattle.ac_rules.proofs.EachSlot.ClaimLaws.{claims_in_use}
use Rattle.ac_rules.proofs.laws.claims_in_use.Goals as goal

pub returns : goal.returns
returns c = claims_in_use
