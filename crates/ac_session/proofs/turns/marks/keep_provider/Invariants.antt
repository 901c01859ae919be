use Rattle.std.proofs.Common.{◌≡◌, ◌++◌, drop, map}
use Rattle.ac_cloud.specs.Cloud.CloudWorld.{providers_of}
use Rattle.ac_cloud.specs.Cloud.Entries.{entry_pair}
use Rattle.ac_session.specs.Marks.{kept_at, kept_entry, kept_shown}
use Rattle.ac_session.proofs.turns.marks.keep_provider.Given as goal

abbrev pub invariant-loop-entry : goal.invariant-loop-entry
invariant-loop-entry l =
    map kept_shown l.kept.items ++ map (kept_entry l.ix) (map entry_pair (drop l.entry-index l.entry-items))
    ≡ map kept_shown l.fn.kept.items ++ kept_at (providers_of l.cloud) l.ix
