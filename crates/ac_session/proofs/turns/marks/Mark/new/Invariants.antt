use Rattle.std.proofs.Common.{◌≡◌, map}
use Rattle.std.specs.List.{flat_map, range_with_len}
use Rattle.ac_cloud.specs.Cloud.CloudWorld.{providers_of}
use Rattle.ac_session.specs.Marks.{kept_at, kept_shown}
use Rattle.ac_session.proofs.turns.marks.Mark.new.Given as goal

abbrev pub invariant-loop-ix : goal.invariant-loop-ix
invariant-loop-ix l = map kept_shown l.used.items ≡ flat_map (kept_at (providers_of l.cloud)) (range_with_len 0 l.ix)
