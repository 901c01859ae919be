use Rattle.std.proofs.Common.{length}
use Rattle.ac_rules.proofs.plain.after.+is_after.Given as goal

abbrev pub decreases-is_after : goal.decreases-is_after
decreases-is_after l = length l.ids.now
