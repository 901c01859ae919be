use Rattle.std.proofs.Common.{◌≡◌, map, take}
use Rattle.ac_base.specs.Names.{class_bytes}
use Rattle.ac_cloud.specs.Cloud.Entries.{entry_pair}
use Rattle.ac_change.specs.Changes.{entry_set}
use Rattle.ac_change.specs.Shown.{setting_shown}
use Rattle.ac_change.proofs.draft.inventories.entries_set.Given as goal

abbrev pub invariant-loop-entry : goal.invariant-loop-entry
invariant-loop-entry l =
    map entry_pair l.new.items ≡ map (entry_set (class_bytes l.class) (setting_shown l.to)) (map entry_pair (take l.entry-index l.entries))
