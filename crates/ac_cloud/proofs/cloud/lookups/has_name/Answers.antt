use Rattle.ac_cloud.proofs.Common.{◌∙◌, is_eq, bytes_eq, nat_list_cmp_total, is_eq-slice_cmp, text_cmp, trait_bytes}
use Rattle.ac_base.proofs.Sorted.SearchFacts.{any_map, found, found_any}
use Rattle.ac_cloud.proofs.cloud.lookups.has_name.Goals as goal

pub returns : goal.returns
returns c =
    let name = trait_bytes c.args.name.now in
    let place = found trait_bytes nat_list_cmp_total c.args.names.now name c.binary_search.result c.requires c.binary_search.ensures.bound c.binary_search.ensures.position in
    c.is_ok.ensures.value ∙ found_any trait_bytes nat_list_cmp_total c.args.names.now name c.binary_search.result place
    ∙ any_map (λ n. is_eq (text_cmp name (trait_bytes n))) (bytes_eq name) trait_bytes (λ n. is_eq-slice_cmp name (trait_bytes n)) c.args.names.now
