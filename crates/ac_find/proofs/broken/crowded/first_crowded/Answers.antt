use Rattle.std.proofs.Common.{◌∙◌, ℕ, List, ap, rules, tests}
use Rattle.std.specs.Prelude.{find, not}
use Rattle.std.proofs.lemmas.Iterator.{YieldsList-from_slice}
use Rattle.std.proofs.lemmas.Iterator.Search.{find_from_yields_List}
use Rattle.ac_cloud.specs.World.{provider_at}
use Rattle.ac_cloud.specs.Cloud.CloudWorld.{providers_of}
use Rattle.ac_query.specs.Shown.Groups.{need_entry}
use Rattle.ac_rules.specs.Shown.Assignments.{assigned_of}
use Rattle.ac_rules.specs.Together.{holds, sum_on}
use Rattle.ac_find.proofs.DetailsWritten.{found_shown}
use Rattle.ac_find.proofs.broken.crowded.first_crowded.Goals as goal

pub returns : goal.returns
returns c =
    let p = provider_at (providers_of c.args.placed.now.cloud.now) c.args.placed.now.provider in
    let test = λ (need : List ℕ × ℕ). not (holds p need.0 (sum_on (assigned_of c.args.assignment.now) c.args.placed.now.provider need.0)) in
    found_shown need_entry test c.needs.result.now c.find.result
    (find_from_yields_List (λ x. test (need_entry x)) _ _ c.find.result c.find.ensures.ran (YieldsList-from_slice c.needs.result.now cc) (λ x b q k. search (rules, tests)))
    ∙ ap (find test) c.needs.ensures
