use Rattle.std.proofs.Common.{◌∙◌, ℕ, List, ap, rules}
use Rattle.std.specs.List.{list_all}
use Rattle.ac_cloud.specs.World.{provider_at}
use Rattle.ac_cloud.specs.Cloud.CloudWorld.{providers_of}
use Rattle.ac_query.specs.Shown.Groups.{need_entry}
use Rattle.ac_rules.proofs.ChainLemmas.{all_items}
use Rattle.ac_find.specs.Explained.{has_inventory}
use Rattle.ac_find.proofs.inventories.has_inventories.Goals as goal

pub returns : goal.returns
returns c =
    let test = λ (need : List ℕ × ℕ). has_inventory (provider_at (providers_of c.args.placed.now.cloud.now) c.args.placed.now.provider) need.0 in
    all_items need_entry test _ _ _ _ c.all.ensures.ran c.iter.ensures.rest (λ x b q k. search rules)
    ∙ ap (list_all test) c.needs.ensures
