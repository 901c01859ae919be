use Rattle.std.proofs.Common.{◌∙◌, ap}
use Rattle.std.specs.List.{list_any}
use Rattle.std.specs.Ordering.{is_eq}
use Rattle.std.specs.Str.{bytes_eq}
use Rattle.std.proofs.lemmas.Cmp.{nat_list_cmp_total}
use Rattle.std.proofs.lemmas.Map.Text.{is_eq-slice_cmp}
use Rattle.ac_base.specs.Texts.{text_cmp}
use Rattle.ac_base.specs.Names.{trait_bytes}
use Rattle.ac_base.proofs.Sorted.SearchFacts.{any_map, found, found_any}
use Rattle.ac_find.proofs.differences.asks.forbids_trait.Goals as goal

pub returns : goal.returns
returns c =
    let names = c.forbidden.result.now in
    let name = trait_bytes c.args.name.now in
    let place = found trait_bytes nat_list_cmp_total names name c.binary_search.result c.forbidden.ensures.rising c.binary_search.ensures.bound c.binary_search.ensures.position in
    c.is_ok.ensures.value ∙ found_any trait_bytes nat_list_cmp_total names name c.binary_search.result place
    ∙ any_map (λ n. is_eq (text_cmp name (trait_bytes n))) (bytes_eq name) trait_bytes (λ n. is_eq-slice_cmp name (trait_bytes n)) names
    ∙ ap (list_any (bytes_eq name)) c.forbidden.ensures.names
