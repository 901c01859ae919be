use Rattle.std.proofs.Common.{◌∙◌, [], Some, map, refl, ap}
use Rattle.std.specs.Option.{option_map}
use Rattle.ac_base.specs.Names.{suffix_bytes}
use Rattle.ac_query.specs.Texts.{in_byte_order}
use Rattle.ac_query.specs.Pairs.Values.{subtree_value}
use Rattle.ac_query.proofs.Values.NameSets.{all_shown}
use Rattle.ac_query.proofs.reading.values.read_subtree.Goals as goal

pub returns-in_ok-set_of-in-Some : goal.returns-in_ok-set_of-in-Some
unfolding subtree_value
returns-in_ok-set_of-in-Some c =
    ap (λ names. Some names) (ap (map suffix_bytes) c.in_ok-set_of-in-Some.ensures ∙ all_shown suffix_bytes _ (λ a b. refl) [] c.in-Some.list.items)
    ∙ ap (option_map in_byte_order) (rw c.in-Some.is at c.in_ok-list.ensures)
