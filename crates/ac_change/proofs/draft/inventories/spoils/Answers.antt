use Rattle.std.proofs.Common.{◌∙◌, refl, rules}
use Rattle.std.proofs.lemmas.Iterator.{YieldsList-from_slice}
use Rattle.std.proofs.lemmas.Iterator.Search.{any_from_yields_List}
use Rattle.ac_base.proofs.Sorted.SearchFacts.{any_map}
use Rattle.ac_base.specs.Names.{class_bytes}
use Rattle.ac_cloud.specs.Cloud.Entries.{entry_pair}
use Rattle.ac_change.specs.Changes.{is_spoilt}
use Rattle.ac_change.specs.Shown.{setting_shown}
use Rattle.ac_change.proofs.draft.inventories.spoils.Goals as goal

pub returns : goal.returns
returns c =
    let test = is_spoilt (class_bytes c.args.class.now) (setting_shown c.args.to) in
    any_from_yields_List (λ e. test (entry_pair e)) _ _ c.any.result c.any.ensures.ran (YieldsList-from_slice _ c.iter.ensures.rest) (λ x b q k. search rules)
    ∙ any_map (λ e. test (entry_pair e)) test entry_pair (λ e. refl) c.args.entries.now
