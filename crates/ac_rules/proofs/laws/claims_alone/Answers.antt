use Rattle.ac_rules.proofs.EachSlot.ClaimLaws.{claims_alone}
use Rattle.ac_rules.proofs.laws.claims_alone.Goals as goal

pub returns : goal.returns
returns c = claims_alone
