use Rattle.std.proofs.Common.{◌≡◌, ◌++◌, Some, drop, map}
use Rattle.std.specs.List.{filter_map}
use Rattle.ac_cloud.specs.Cloud.Entries.{entry_pair}
use Rattle.ac_cloud.specs.Providers.{provider_of}
use Rattle.ac_find.specs.Audit.{entries_found, entry_detail, found_if}
use Rattle.ac_find.specs.Shown.Audit.{finding_shown}
use Rattle.ac_find.proofs.audit.add_entries.Given as goal

abbrev pub invariant-loop-entry : goal.invariant-loop-entry
invariant-loop-entry l =
    map finding_shown l.found.items ++ filter_map (λ e. found_if l.kind (Some (provider_of l.provider)) (entry_detail l.kind e)) (map entry_pair (drop l.entry-index l.entry-items))
    ≡ map finding_shown l.fn.found.items ++ entries_found l.kind (provider_of l.provider)
