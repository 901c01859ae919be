use Rattle.std.proofs.Common.{ℕ, List, rules, tests}
use Rattle.std.specs.Prelude.{not}
use Rattle.std.proofs.lemmas.Iterator.{YieldsList-from_slice}
use Rattle.std.proofs.lemmas.Iterator.Search.{find_from_yields_List}
use Rattle.ac_cloud.specs.Cloud.CloudWorld.{providers_of}
use Rattle.ac_query.specs.Shown.Groups.{any_of_shown}
use Rattle.ac_query.specs.Shown.Queries.{asked_of}
use Rattle.ac_find.specs.Explained.{is_one_held}
use Rattle.ac_find.proofs.DetailsWritten.{found_shown}
use Rattle.ac_find.proofs.unheld.first_unheld_list.Goals as goal

pub returns : goal.returns
returns c =
    let serving = c.args.serving.now in
    let test = λ (names : List (List ℕ)). not (is_one_held (providers_of serving.cloud.now) (asked_of serving.query.now) c.args.root names) in
    found_shown any_of_shown test c.args.lists.now c.find.result
    (find_from_yields_List (λ x. test (any_of_shown x)) _ _ c.find.result c.find.ensures.ran (YieldsList-from_slice c.args.lists.now cc) (λ x b q k. search (rules, tests)))
