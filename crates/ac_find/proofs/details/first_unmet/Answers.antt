use Rattle.std.proofs.Common.{rules, tests}
use Rattle.std.specs.Prelude.{not}
use Rattle.std.proofs.lemmas.Iterator.{YieldsList-from_slice}
use Rattle.std.proofs.lemmas.Iterator.Search.{find_from_yields_List}
use Rattle.ac_cloud.specs.Cloud.CloudWorld.{providers_of}
use Rattle.ac_query.specs.Pairs.Values.{AggregateRule}
use Rattle.ac_query.specs.Shown.Groups.{rule_shown}
use Rattle.ac_rules.specs.Own.{meets_rule}
use Rattle.ac_rules.specs.Shown.Assignments.{placed_of}
use Rattle.ac_find.proofs.DetailsWritten.{found_shown}
use Rattle.ac_find.proofs.details.first_unmet.Goals as goal

pub returns : goal.returns
returns c =
    let test = λ (rule : AggregateRule). not (meets_rule (providers_of c.args.placed.now.cloud.now) (placed_of c.args.placed.now) rule) in
    found_shown rule_shown test c.args.rules.now c.find.result
    (find_from_yields_List (λ x. test (rule_shown x)) _ _ c.find.result c.find.ensures.ran (YieldsList-from_slice c.args.rules.now cc) (λ x b q k. search (rules, tests)))
