use Rattle.std.proofs.Common.{◌∙◌, [], Some, map, refl, ap}
use Rattle.std.specs.Option.{option_map}
use Rattle.ac_base.specs.Names.{trait_bytes}
use Rattle.ac_query.specs.Texts.{in_byte_order}
use Rattle.ac_query.specs.Pairs.Values.{names_value}
use Rattle.ac_query.proofs.Values.NameSets.{all_shown}
use Rattle.ac_query.proofs.reading.values.read_any_of.Goals as goal

pub returns-in_ok-names-in-Some : goal.returns-in_ok-names-in-Some
unfolding names_value
returns-in_ok-names-in-Some c =
    ap (λ names. Some names)
    (c.in_ok-names-in-Some.ensures.names ∙ ap (map trait_bytes) c.in_ok-set_of-in-Some.ensures ∙ all_shown trait_bytes _ (λ a b. refl) [] c.in-Some.list.items)
    ∙ ap (option_map in_byte_order) (rw c.in-Some.is at c.in_ok-list.ensures)
