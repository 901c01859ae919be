use Rattle.std.proofs.Common.{◌∙◌, ap, map}
use Rattle.std.specs.List.{list_any}
use Rattle.std.specs.Str.{bytes_eq}
use Rattle.ac_base.specs.Names.{trait_bytes}
use Rattle.ac_rules.proofs.EachSlot.TraitLemmas.{either_way}
use Rattle.ac_rules.proofs.rules.traits.has_any_of_many.Goals as goal

pub returns : goal.returns
returns c =
    let names = map trait_bytes c.args.names.now in
    c.is_one_among.ensures ∙ either_way (map trait_bytes c.traits.result.now) names ∙ ap (λ own. list_any (λ n. list_any (bytes_eq n) own) names) c.traits.ensures
