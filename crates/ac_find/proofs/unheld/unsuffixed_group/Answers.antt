use Rattle.std.proofs.Common.{◌∙◌, ℕ, List, Option, ap, rules, tests}
use Rattle.std.specs.Prelude.{find, is_none}
use Rattle.std.proofs.lemmas.Iterator.{YieldsList-from_slice}
use Rattle.std.proofs.lemmas.Iterator.Search.{find_from_yields_List}
use Rattle.ac_query.specs.Asked.{Group}
use Rattle.ac_query.specs.Shown.Groups.{group_entry}
use Rattle.ac_find.proofs.DetailsWritten.{found_shown}
use Rattle.ac_find.proofs.unheld.unsuffixed_group.Goals as goal

pub returns : goal.returns
returns c =
    let test = λ (g : Option (List ℕ) × Group). is_none g.0 in
    found_shown group_entry test c.groups.result.now c.find.result
    (find_from_yields_List (λ x. test (group_entry x)) _ _ c.find.result c.find.ensures.ran (YieldsList-from_slice c.groups.result.now cc) (λ x b q k. search (rules, tests)))
    ∙ ap (find test) c.groups.ensures.groups
