use Rattle.ac_tables.proofs.Common.{◌∙◌, rules, is_eq, bytes_eq, nat_list_cmp_total, always_returns_same, is_eq-slice_cmp, class_bytes, InventoryNumbers, text_cmp, ClassName, eq_turned, TableRow}
use Rattle.ac_base.proofs.Sorted.SearchFacts.{any_same, found, found_any}
use Rattle.ac_tables.proofs.tables.inventories.has_class.Goals as goal

pub returns : goal.returns
returns c =
    let class = class_bytes c.args.class.now in
    let rows = c.args.rows.now in
    let key = λ (r : TableRow ClassName InventoryNumbers). class_bytes r.key in
    let place = found key nat_list_cmp_total rows class c.binary_search_by.result c.requires c.binary_search_by.ensures.bound
    (c.binary_search_by.ensures.position (λ r. text_cmp (key r) class) (always_returns_same _ _ _ (λ a r g called. (search rules, search rules)))) in
    c.is_ok.ensures.value ∙ found_any key nat_list_cmp_total rows class c.binary_search_by.result place
    ∙ any_same (λ r. is_eq (text_cmp class (key r))) (λ r. bytes_eq (key r) class) (λ r. is_eq-slice_cmp class (key r) ∙ eq_turned class (key r)) rows
