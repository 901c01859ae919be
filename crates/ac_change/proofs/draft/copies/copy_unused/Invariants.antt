use Rattle.std.proofs.Common.{◌≡◌, map, take}
use Rattle.ac_cloud.specs.Cloud.Entries.{entry_pair}
use Rattle.ac_change.specs.Changes.{entry_unused}
use Rattle.ac_change.proofs.draft.copies.copy_unused.Given as goal

abbrev pub invariant-loop-entry : goal.invariant-loop-entry
invariant-loop-entry l = map entry_pair l.copies.items ≡ map entry_unused (map entry_pair (take l.entry-index l.entries))
