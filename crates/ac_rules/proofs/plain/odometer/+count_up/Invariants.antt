use Rattle.std.proofs.Common.{length}
use Rattle.ac_rules.proofs.plain.odometer.+count_up.Given as goal

abbrev pub decreases-count_up : goal.decreases-count_up
decreases-count_up l = length l.list.now
