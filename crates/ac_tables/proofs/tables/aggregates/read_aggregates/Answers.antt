use Rattle.ac_tables.proofs.Common.{◌∙◌, ◌==◌, ℕ, false, List, map, length, filter, range_with_len, get_or, refl, ap, nat_cmp, dedup, nat_cmp_total, exact_unsigned, row_ties, AggregateRecord, aggregates_said, same_place, TableRow}
use Rattle.ac_tables.specs.Tables.{aggregates_of, rows_given}
use Rattle.ac_tables.specs.declared.fault.Table.TheVariants as table
use Rattle.std.proofs.lemmas.List.Elements.{same_from_all_zip}
use Rattle.ac_tables.proofs.Gathered.OwnRows.{own_lists}
use Rattle.ac_tables.proofs.Sorted.ProviderSets.{shown_set}
use Rattle.ac_tables.proofs.Sorted.RowLists.{of_each}
use Rattle.ac_tables.proofs.tables.aggregates.read_aggregates.Goals as goal

abbrev aggregate_shown : List ℕ → ℕ → ℕ → Unit {0} → AggregateRecord
aggregate_shown ids place key value = record { provider = get_or ids place 0; aggregate = key }

pub returns-clause-value : goal.returns-clause-value
unfolding aggregates_of
returns-clause-value c =
    let ids = c.args.ids.now.ids.items in
    let said = aggregates_said (rows_given table.Aggregates c.args.text) in
    let lists = own_lists c.in_ok-own.own (length c.args.ids.now.ids.items) (c.in_ok-own.ensures.count ∙ c.len.ensures.value)
    ∙ ap (λ (rows : List (TableRow ℕ (Unit {0}))). map (λ p. filter (λ r. r.place == p) rows) (range_with_len 0 (length c.args.ids.now.ids.items))) (c.in_ok-own.ensures.rows ∙ c.keep_first.ensures.value) in
    same_from_all_zip _ _ _ c.in_ok-keys_of.ensures.lists (λ xs ys all. same_from_all_zip _ xs ys all (λ x y e. e))
    ∙ of_each (dedup (row_ties nat_cmp) c.in_ok-rows.rows.items) (map (λ r. r.key)) (aggregates_of said) ids _ lists (λ p h.
    shown_set nat_cmp nat_cmp_total nat_cmp nat_cmp_total exact_unsigned (λ (k : ℕ). k) (λ a b. refl)
    (aggregate_shown ids) (length ids) false said c.in_ok-rows.rows.items c.in_ok-rows.ensures.rows (λ (v : AggregateRecord). v.provider) (λ (v : AggregateRecord). v.aggregate) p (get_or ids p 0)
    (λ r inside. same_place ids c.args.ids.now.rising r.place p inside h)
    (λ r. refl))
