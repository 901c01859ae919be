use Rattle.std.proofs.Common.{◌∙◌, ap, codes, rules}
use Rattle.std.specs.List.{list_any}
use Rattle.std.specs.Str.{bytes_eq}
use Rattle.ac_base.specs.Names.{trait_bytes}
use Rattle.ac_rules.proofs.ChainLemmas.{any_items}
use Rattle.ac_find.proofs.audit.names.has_disabled.Goals as goal

pub returns : goal.returns
returns c =
    any_items trait_bytes (bytes_eq (codes "COMPUTE_STATUS_DISABLED")) _ _ _ _ c.any.ensures.ran c.iter.ensures.rest (λ x b q k. search rules)
    ∙ ap (list_any (bytes_eq (codes "COMPUTE_STATUS_DISABLED"))) c.traits.ensures
