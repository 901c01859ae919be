use Rattle.std.proofs.Common.{◌∙◌, ◌||◌, ℕ, List, Option, ap, rules, tests}
use Rattle.std.specs.Prelude.{find, is_some, not}
use Rattle.std.proofs.lemmas.Iterator.{YieldsList-from_slice}
use Rattle.std.proofs.lemmas.Iterator.Search.{find_from_yields_List}
use Rattle.ac_cloud.specs.Cloud.CloudWorld.{providers_of}
use Rattle.ac_query.specs.Asked.{Group}
use Rattle.ac_query.specs.Shown.Groups.{group_entry}
use Rattle.ac_rules.specs.Shown.Assignments.{assigned_of}
use Rattle.ac_rules.specs.Together.{are_brought}
use Rattle.ac_find.proofs.DetailsWritten.{found_shown}
use Rattle.ac_find.proofs.broken.unserved.first_unserved_group.Goals as goal

pub returns : goal.returns
returns c =
    let test = λ (g : Option (List ℕ) × Group). not (is_some g.0 || are_brought (providers_of c.args.assignment.now.cloud.now) (assigned_of c.args.assignment.now) g.1) in
    found_shown group_entry test c.groups.result.now c.find.result
    (find_from_yields_List (λ x. test (group_entry x)) _ _ c.find.result c.find.ensures.ran (YieldsList-from_slice c.groups.result.now cc) (λ x b q k. search (rules, tests)))
    ∙ ap (find test) c.groups.ensures.groups
