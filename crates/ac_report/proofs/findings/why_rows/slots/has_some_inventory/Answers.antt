use Rattle.std.proofs.Common.{◌∙◌, ℕ, List, refl, rules, tests}
use Rattle.std.proofs.lemmas.Iterator.{YieldsList-from_slice}
use Rattle.std.proofs.lemmas.Iterator.Search.{any_from_yields_List}
use Rattle.ac_base.proofs.Sorted.SearchFacts.{any_map}
use Rattle.ac_cloud.specs.Providers.{provider_of}
use Rattle.ac_query.specs.Shown.Groups.{need_entry}
use Rattle.ac_find.specs.Explained.{has_inventory}
use Rattle.ac_report.proofs.findings.why_rows.slots.has_some_inventory.Goals as goal

pub returns : goal.returns
returns c =
    let test = λ (need : List ℕ × ℕ). has_inventory (provider_of c.args.provider.now) need.0 in
    any_from_yields_List (λ x. test (need_entry x)) _ _ c.any.result c.any.ensures.ran (YieldsList-from_slice c.args.needs.now cc) (λ x b q k. search (rules, tests))
    ∙ any_map (λ x. test (need_entry x)) test need_entry (λ x. refl) c.args.needs.now
