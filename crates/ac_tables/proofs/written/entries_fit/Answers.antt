use Rattle.std.proofs.Common.{◌∙◌, ap, rules, sym}
use Rattle.std.proofs.lemmas.Iterator.{YieldsList-from_slice}
use Rattle.std.proofs.lemmas.Iterator.Search.{all_from_yields_List}
use Rattle.std.proofs.lemmas.List.Folds.{list_all-map}
use Rattle.std.specs.List.{list_all}
use Rattle.ac_cloud.specs.Cloud.Entries.{entry_pair}
use Rattle.ac_tables.specs.UsageRows.{fits_table}
use Rattle.ac_tables.proofs.written.entries_fit.Goals as goal

pub returns : goal.returns
returns c =
    all_from_yields_List (λ e. fits_table (entry_pair e)) _ _ _ c.all.ensures.ran (YieldsList-from_slice _ c.iter.ensures.rest) (λ x b q k. search rules)
    ∙ sym (list_all-map fits_table entry_pair c.entries.result.now) ∙ ap (list_all fits_table) c.entries.ensures
