use Rattle.ac_tables.proofs.Common.{◌≡◌, ◌∙◌, ◌==◌, ℕ, false, List, map, length, filter, range_with_len, get_or, refl, ap, Ordering, on_total, dedup, nat_list_cmp_total, exact_bytes, trait_bytes, text_cmp, TraitName, row_ties, TraitRecord, traits_said, same_place, map-map, TableRow}
use Rattle.ac_tables.specs.Tables.{names_of, rows_given}
use Rattle.ac_tables.specs.declared.fault.Table.TheVariants as table
use Rattle.ac_tables.proofs.Gathered.OwnRows.{lists_shown, own_lists}
use Rattle.ac_tables.proofs.Sorted.ProviderSets.{shown_set}
use Rattle.ac_tables.proofs.Sorted.RowLists.{of_each}
use Rattle.ac_tables.proofs.tables.traits.read_traits.Goals as goal

abbrev trait_cmp : TraitName → TraitName → Ordering
trait_cmp a b = text_cmp (trait_bytes a) (trait_bytes b)

abbrev trait_shown : List ℕ → ℕ → TraitName → Unit {0} → TraitRecord
trait_shown ids place key value = record { provider = get_or ids place 0; name = trait_bytes key }

pub returns-clause-value : goal.returns-clause-value
unfolding names_of
returns-clause-value c =
    let ids = c.args.ids.now.ids.items in
    let said = traits_said (rows_given table.Traits c.args.text) in
    let lists = own_lists c.in_ok-own.own (length c.args.ids.now.ids.items) (c.in_ok-own.ensures.count ∙ c.len.ensures.value)
    ∙ ap (λ (rows : List (TableRow TraitName (Unit {0}))). map (λ p. filter (λ r. r.place == p) rows) (range_with_len 0 (length c.args.ids.now.ids.items))) (c.in_ok-own.ensures.rows ∙ c.keep_first.ensures.value) in
    lists_shown (λ (name other : TraitName). trait_bytes other ≡ trait_bytes name) trait_bytes (λ x y e. e) _ _ c.in_ok-keys_of.ensures.lists ∙ map-map (map trait_bytes) (map (λ r. r.key)) _
    ∙ of_each (dedup (row_ties trait_cmp) c.in_ok-rows.rows.items) (λ l. map trait_bytes (map (λ r. r.key) l)) (names_of said) ids _ lists (λ p h.
    map-map trait_bytes (λ r. r.key) _
    ∙ shown_set trait_cmp (on_total trait_bytes nat_list_cmp_total) text_cmp nat_list_cmp_total exact_bytes trait_bytes (λ a b. refl)
    (trait_shown ids) (length ids) false said c.in_ok-rows.rows.items c.in_ok-rows.ensures.rows (λ (v : TraitRecord). v.provider) (λ (v : TraitRecord). v.name) p (get_or ids p 0)
    (λ r inside. same_place ids c.args.ids.now.rising r.place p inside h)
    (λ r. refl))
