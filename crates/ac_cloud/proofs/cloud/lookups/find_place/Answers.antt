use Rattle.ac_cloud.proofs.Common.{rules, text_cmp, nat_list_cmp_total, always_returns_same, class_bytes, entry_class}
use Rattle.ac_base.proofs.Sorted.SearchFacts.{found}
use Rattle.ac_cloud.proofs.Places.AmountFacts.{stands}
use Rattle.ac_cloud.proofs.cloud.lookups.find_place.Goals as goal

pub returns : goal.returns
returns c =
    let class = class_bytes c.args.class.now in
    let place = found entry_class nat_list_cmp_total c.args.entries.now class c.binary_search_by.result c.requires c.binary_search_by.ensures.bound (c.binary_search_by.ensures.position (λ e. text_cmp (entry_class e) class) (always_returns_same _ _ _ (λ a r g called. (search rules, search rules)))) in
    rw c.ok.ensures.value (stands class c.args.entries.now c.binary_search_by.result c.requires place)
