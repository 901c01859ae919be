use Rattle.ac_base.proofs.Ratios.OldKept.{old_ratios_keep}
use Rattle.ac_base.proofs.laws.old_ratios_keep.Goals as goal

pub returns : goal.returns
returns c = old_ratios_keep
