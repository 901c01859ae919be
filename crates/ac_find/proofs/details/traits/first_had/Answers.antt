use Rattle.std.proofs.Common.{ℕ, List, rules, tests}
use Rattle.std.proofs.lemmas.Iterator.{YieldsList-from_slice}
use Rattle.std.proofs.lemmas.Iterator.Search.{find_from_yields_List}
use Rattle.ac_base.specs.Names.{trait_bytes}
use Rattle.ac_cloud.specs.World.{has_trait}
use Rattle.ac_cloud.specs.Providers.{provider_of}
use Rattle.ac_find.proofs.DetailsWritten.{found_shown}
use Rattle.ac_find.proofs.details.traits.first_had.Goals as goal

pub returns : goal.returns
returns c =
    let test = λ (name : List ℕ). has_trait (provider_of c.args.provider.now) name in
    found_shown trait_bytes test c.args.names.now c.find.result
    (find_from_yields_List (λ x. test (trait_bytes x)) _ _ c.find.result c.find.ensures.ran (YieldsList-from_slice c.args.names.now cc) (λ x b q k. search (rules, tests)))
