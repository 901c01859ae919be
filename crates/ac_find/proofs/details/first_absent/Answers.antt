use Rattle.std.proofs.Common.{ℕ, List, rules, tests}
use Rattle.std.specs.Prelude.{not}
use Rattle.std.proofs.lemmas.Iterator.{YieldsList-from_slice}
use Rattle.std.proofs.lemmas.Iterator.Search.{find_from_yields_List}
use Rattle.ac_cloud.specs.World.{provider_at}
use Rattle.ac_cloud.specs.Cloud.CloudWorld.{providers_of}
use Rattle.ac_query.specs.Shown.Groups.{need_entry}
use Rattle.ac_find.specs.Explained.{has_inventory}
use Rattle.ac_find.proofs.DetailsWritten.{found_shown}
use Rattle.ac_find.proofs.details.first_absent.Goals as goal

pub returns : goal.returns
returns c =
    let test = λ (need : List ℕ × ℕ). not (has_inventory (provider_at (providers_of c.args.placed.now.cloud.now) c.args.placed.now.provider) need.0) in
    found_shown need_entry test c.args.needs.now c.find.result
    (find_from_yields_List (λ x. test (need_entry x)) _ _ c.find.result c.find.ensures.ran (YieldsList-from_slice c.args.needs.now cc) (λ x b q k. search (rules, tests)))
