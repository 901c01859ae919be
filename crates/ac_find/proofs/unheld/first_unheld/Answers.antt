use Rattle.std.proofs.Common.{ℕ, List, rules, tests}
use Rattle.std.specs.Prelude.{not}
use Rattle.std.proofs.lemmas.Iterator.{YieldsList-from_slice}
use Rattle.std.proofs.lemmas.Iterator.Search.{find_from_yields_List}
use Rattle.ac_base.specs.Names.{trait_bytes}
use Rattle.ac_cloud.specs.Cloud.CloudWorld.{providers_of}
use Rattle.ac_query.specs.Shown.Queries.{asked_of}
use Rattle.ac_find.specs.Explained.{is_held}
use Rattle.ac_find.proofs.DetailsWritten.{found_shown}
use Rattle.ac_find.proofs.unheld.first_unheld.Goals as goal

pub returns : goal.returns
returns c =
    let serving = c.args.serving.now in
    let test = λ (name : List ℕ). not (is_held (providers_of serving.cloud.now) (asked_of serving.query.now) c.args.root name) in
    found_shown trait_bytes test c.args.names.now c.find.result
    (find_from_yields_List (λ x. test (trait_bytes x)) _ _ c.find.result c.find.ensures.ran (YieldsList-from_slice c.args.names.now cc) (λ x b q k. search (rules, tests)))
