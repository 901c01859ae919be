use Rattle.ac_cloud.proofs.Common.{◌∙◌, Some, sym, ap, class_bytes}
use Rattle.ac_cloud.specs.Cloud.Entries.{entry_value}
use Rattle.ac_cloud.proofs.Places.AmountFacts.{lookup_nowhere, lookup_there}
use Rattle.ac_cloud.proofs.cloud.lookups.find_entry.Goals as goal

pub returns-in-Some : goal.returns-in-Some
returns-in-Some c =
    ap (λ e. Some (entry_value e)) c.index-entries-place.is
    ∙ sym (lookup_there (class_bytes c.args.class.now) c.args.entries.now c.in-Some.place c.index-entries-place.result c.in-Some.ensures)

pub returns-in-None : goal.returns-in-None
returns-in-None c = sym (lookup_nowhere (class_bytes c.args.class.now) c.args.entries.now c.in-None.ensures)
