use Rattle.std.proofs.Common.{◌∙◌, sym, ap, map, not}
use Rattle.ac_base.specs.Names.{trait_bytes}
use Rattle.ac_cloud.specs.Providers.{provider_of}
use Rattle.ac_cloud.specs.World.{has_trait}
use Rattle.ac_rules.proofs.EachSlot.TraitLemmas.{all_fail}
use Rattle.ac_rules.proofs.rules.traits.has_none.Goals as goal

pub returns : goal.returns
returns c =
    let p = provider_of c.args.provider.now in
    ap not c.has_any.ensures ∙ sym (all_fail (λ name. has_trait p name) (map trait_bytes c.args.names.now))
