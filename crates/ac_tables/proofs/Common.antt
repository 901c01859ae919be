-- The names that most proofs of this crate cite, passed on from one place. Declares nothing.
pub use Rattle.ac_base.specs.Names.{class_bytes, trait_bytes}
pub use Rattle.ac_base.specs.Quantities.{InventoryNumbers}
pub use Rattle.ac_base.specs.Texts.{id_value, text_cmp}
pub use Rattle.ac_base.specs.declared.name.ClassName.{ClassName}
pub use Rattle.ac_base.specs.declared.name.TraitName.{TraitName}
pub use Rattle.ac_cloud.specs.Cloud.Entries.{entry_class, entry_pair}
pub use Rattle.ac_tables.specs.Reader.EntryLists.{with_used_lists}
pub use Rattle.ac_tables.specs.Reader.Kin.{AreKin}
pub use Rattle.ac_cloud.specs.Cloud.Numbered.{numbered_at}
pub use Rattle.ac_cloud.specs.Cloud.Places.{AreParents, AreWithin, parent_in, rank}
pub use Rattle.ac_cloud.specs.Cloud.RisingIds.{IsRising}
pub use Rattle.ac_tables.specs.Reader.InventoryRows.{class_pair, inventory_records_shown, inventory_shown}
pub use Rattle.ac_tables.specs.Reader.Listings.{IsFirst}
pub use Rattle.ac_cloud.specs.ListsOf.{lists_of}
pub use Rattle.ac_tables.specs.Reader.ProviderLaws.{name_bytes, provider_shown}
pub use Rattle.ac_base.proofs.Small.{eq_turned}
pub use Rattle.ac_tables.specs.Reader.RecordLaws.{lone_checks, same_place}
pub use Rattle.ac_tables.specs.Reader.OwnRows.{own_rows}
pub use Rattle.ac_tables.specs.Reader.TableRows.{AreRunsSorted, AreSpans, AreTiesRising, IsGrouped, IsInOrder, IsKeyed, IsLeast, IsLeastBelow, IsLeastRepeat, IsReadSoFar, IsSpan, IsTable, row_cmp, turned_cmp, row_shown, row_ties, is_past, sooner, whole_lt, IsPartSorted, IsRun}
pub use Rattle.ac_base.specs.Sorted.{TextMap, map_of, rising, is_one_of}
pub use Rattle.ac_tables.specs.Tables.{Tables, aggregates_of, amounts_of, gathered, inventories_of, names_of, records_or_header, with_used}
pub use Rattle.ac_tables.specs.Tables.AggregateTable.{AggregateRecord, aggregates_said}
pub use Rattle.ac_tables.specs.Tables.Checks.{Check, Row, Tells, TellsKind, first_failing, pass, record_checks, rows_fault, told_at}
pub use Rattle.ac_tables.specs.Tables.Columns.{id_in, table_checks, text_in}
pub use Rattle.ac_tables.specs.Tables.InventoryTable.{InventoryRecord, class_name, inventories_said, is_inventory_of, known_checks, owner_checks, provider_name}
pub use Rattle.ac_tables.specs.Tables.ProviderTable.{ProviderRecord, has_endless_chain, has_unknown_parent, has_wrong_root, is_known, no_record, providers_said, record_at, said_name, said_parent, uuid_name}
pub use Rattle.ac_tables.specs.Tables.Rows.{IsReading, records_of, rows_left}
pub use Rattle.ac_tables.specs.Tables.TraitTable.{TraitRecord, traits_said}
pub use Rattle.ac_tables.specs.Tables.UsageTable.{UsageRecord, usage_field_checks, usages_said}
pub use Rattle.ac_cloud.specs.Trees.{is_endless, top}
pub use Rattle.ac_cloud.specs.World.{Provider, UsedInventory, no_provider}
pub use Rattle.ac_cloud.specs.declared.cloud.entry.Entry.{Entry}
pub use Rattle.ac_tables.specs.declared.fault.RecordFault.{RecordFault}
pub use Rattle.ac_tables.specs.declared.fault.Table.{Table}
pub use Rattle.ac_tables.specs.declared.fault.TableFault.{TableFault}
pub use Rattle.ac_tables.specs.declared.fault.TableKind.{TableKind}
pub use Rattle.ac_tables.specs.declared.reader.row.TableRow.{TableRow}
pub use Rattle.ac_tables.specs.declared.tables.inventories.Inventories.{Inventories}
pub use Rattle.ac_tables.specs.declared.tables.provider_record.Named.{Named}
pub use Rattle.csv.specs.Machine.{Read, ends_at_end}
pub use Rattle.csv.specs.Records.{fields_of}
pub use Rattle.csv.specs.declared.parser.State.{State}
pub use Rattle.std.proofs.Common.{All, Bool, Bor, Contains, Equal, Err, Greater, IfSome, IsPermutation, IsSortedBy, Less, List, None, Ok, Option, Ordering, Result, Some, [], ap, append_assoc, ap₂, arith, bytes_eq, codes, drop, drop-cons, false, filter, fold, get_or, if◌then◌else◌, inl, inr, is_eq, is_lt, is_none, is_some, length, map, min, nat_cmp, nat_lt, not, option_and_then, option_map, refl, reverse, rules, subst, suc, sum_by, sym, take, true, unwrap_or, zero, ℕ, ◌&&◌, ◌*◌, ◌++◌, ◌+◌, ◌-◌, ◌<◌, ◌==◌, ◌^◌, ◌||◌, ◌∙◌, ◌∷◌, ◌≡◌, ◌≢◌, ◌≤◌, ◌⊎◌}
pub use Rattle.std.proofs.Math.Seq.{get_or-append_seam}
pub use Rattle.std.proofs.lemmas.Bool.{cases_Bool, cases_lt}
pub use Rattle.std.proofs.lemmas.Bool.Decides.{nat_tests}
pub use Rattle.std.proofs.lemmas.Cmp.{alike_right, eq_by_cmp_equiv, nat_cmp_total, nat_list_cmp_total}
pub use Rattle.std.proofs.lemmas.Fn.{always_returns_same}
pub use Rattle.std.proofs.lemmas.List.{append-nil, get_or-map, get_or_append_left, get_or_default, length-append, length-map, length-take-le, map-append, map-id}
pub use Rattle.std.proofs.lemmas.List.Elements.{All-weaker, Contains-get_or, recursion_from_All}
pub use Rattle.std.proofs.lemmas.List.Filters.{All-dedup}
pub use Rattle.std.proofs.lemmas.List.Folds.{list_any_at}
pub use Rattle.std.proofs.lemmas.List.FromFn.{get_or-map-range_with_len, length-range_with_len}
pub use Rattle.std.proofs.lemmas.List.Kept.{IsStrictlySortedBy-filter}
pub use Rattle.std.proofs.lemmas.List.Sorted.{All-permutation, Contains-permutation, IsPermutation-map, IsPermutation-sym, length_permutation, sorted_far}
pub use Rattle.std.proofs.lemmas.Map.Keys.{IsDistinct-from_sorted}
pub use Rattle.std.proofs.lemmas.Map.Lookups.{exact_bytes, exact_unsigned}
pub use Rattle.std.proofs.lemmas.Map.Text.{is_eq-slice_cmp}
pub use Rattle.std.specs.BTreeMap.{is_at}
pub use Rattle.std.specs.BTreeSet.{insert_key}
pub use Rattle.std.specs.Cmp.{IsStrictWeakOrder, IsTotalOrder, on_total}
pub use Rattle.std.specs.Global.{Vec}
pub use Rattle.std.specs.List.{AllByRecursion, dedup, list_any, position_from, range_with_len}
pub use Rattle.std.specs.List.Sorted.{IsNonDecreasingBy, IsStrictlySortedBy}
pub use Rattle.std.specs.Ordering.{eq_by_cmp, ordering_then}
pub use Rattle.std.specs.Result.{result_ok}
pub use mathlib.Core.List.{map-map}
