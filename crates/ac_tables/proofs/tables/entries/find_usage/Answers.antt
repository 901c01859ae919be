use Rattle.ac_tables.proofs.Common.{◌∙◌, ℕ, map, sym, ap, rules, Some, is_eq, bytes_eq, nat_list_cmp_total, always_returns_same, is_eq-slice_cmp, text_cmp, class_bytes, ClassName, TableRow}
use Rattle.ac_base.proofs.Sorted.SearchFacts.{lookup_same, found, found_value, missed_value}
use Rattle.ac_tables.proofs.tables.entries.find_usage.Goals as goal

pub returns-in-Ok : goal.returns-in-Ok
returns-in-Ok c =
    let rows = c.args.usages.now in
    let class = class_bytes c.args.class.now in
    let key = λ (r : TableRow ClassName ℕ). class_bytes r.key in
    let value = λ (r : TableRow ClassName ℕ). r.value in
    let place = found key nat_list_cmp_total rows class c.binary_search_by.result c.requires c.binary_search_by.ensures.bound (c.binary_search_by.ensures.position (λ (r : TableRow ClassName ℕ). text_cmp (class_bytes r.key) class) (always_returns_same _ _ _ (λ a r g called. (search rules, search rules)))) in
    ap (λ (r : TableRow ClassName ℕ). Some r.value) c.index-usages-place.is
    ∙ sym (found_value key nat_list_cmp_total value rows class c.in-Ok.place c.index-usages-place.result c.requires (rw c.in-Ok.is at place))
    ∙ lookup_same (λ k. is_eq (text_cmp class k)) (bytes_eq class) (λ k. is_eq-slice_cmp class k) (map (λ (r : TableRow ClassName ℕ). (class_bytes r.key, r.value)) rows)

pub returns-in-Err : goal.returns-in-Err
returns-in-Err c =
    let rows = c.args.usages.now in
    let class = class_bytes c.args.class.now in
    let key = λ (r : TableRow ClassName ℕ). class_bytes r.key in
    let value = λ (r : TableRow ClassName ℕ). r.value in
    let place = found key nat_list_cmp_total rows class c.binary_search_by.result c.requires c.binary_search_by.ensures.bound (c.binary_search_by.ensures.position (λ (r : TableRow ClassName ℕ). text_cmp (class_bytes r.key) class) (always_returns_same _ _ _ (λ a r g called. (search rules, search rules)))) in
    sym (missed_value key nat_list_cmp_total value rows class c.in-Err.field-0 (rw c.in-Err.is at place))
    ∙ lookup_same (λ k. is_eq (text_cmp class k)) (bytes_eq class) (λ k. is_eq-slice_cmp class k) (map (λ (r : TableRow ClassName ℕ). (class_bytes r.key, r.value)) rows)
