-- The names that most proofs of this crate cite, passed on from one place. Declares nothing.
pub use Rattle.ac_base.specs.Names.{class_bytes, trait_bytes}
pub use Rattle.ac_base.specs.Texts.{text_cmp}
pub use Rattle.ac_base.specs.declared.name.TraitName.{TraitName}
pub use Rattle.ac_cloud.specs.Cloud.Anchors.{AreAsked, asked_at, is_among, is_joined, is_joining, is_marked, is_met, joined, list_items, list_of, meets, meets_at, shared_ids, shares_by, wide}
pub use Rattle.ac_cloud.specs.Cloud.CloudWorld.{providers_of}
pub use Rattle.ac_cloud.specs.Cloud.Entries.{entry_class, entry_pair}
pub use Rattle.ac_cloud.specs.Cloud.Numbered.{numbered_at}
pub use Rattle.ac_cloud.specs.Cloud.Places.{AreParents, ArePlaces, AreWithin, along, parent_in, rank}
pub use Rattle.ac_cloud.specs.Cloud.RisingIds.{IsRising}
pub use Rattle.ac_cloud.specs.Cloud.Visits.{IsPlaced}
pub use Rattle.ac_cloud.specs.ListsOf.{lists_of}
pub use Rattle.ac_base.specs.Sorted.{TextMap, is_one_of}
pub use Rattle.ac_cloud.specs.Trees.{Above, climb, is_endless, is_in_chain, top, up}
pub use Rattle.ac_cloud.specs.World.{Provider, UsedInventory, anchors_of, id_at, is_available_at, is_root, no_provider, parent_of, place_of, provider_at, root_of}
pub use Rattle.ac_cloud.specs.declared.cloud.Cloud.{Cloud}
pub use Rattle.ac_cloud.specs.declared.cloud.entry.Entry.{Entry}
pub use Rattle.std.proofs.Common.{All, Bool, Err, IfSome, List, None, Ok, Option, Result, Some, [], ap, ap₂, arith, bytes_eq, codes, drop, drop-cons, false, filter, get_or, if◌then◌else◌, inl, inr, is_eq, is_none, is_some, length, map, nat_cmp, nat_le, nat_lt, not, option_and_then, option_map, refl, rules, subst, suc, sym, take, true, unwrap_or, zero, ℕ, ◌%◌, ◌&&◌, ◌++◌, ◌+◌, ◌-◌, ◌<◌, ◌==◌, ◌||◌, ◌∙◌, ◌∷◌, ◌≡◌, ◌≢◌, ◌≤◌, ◌⊎◌, sum_by}
pub use Rattle.std.proofs.Math.Bool.{or-false}
pub use Rattle.std.proofs.lemmas.Bool.{cases_Bool, cases_eq, cases_lt, false≢true}
pub use Rattle.std.proofs.lemmas.Cmp.{eq_by_cmp_equiv, nat_cmp_total, nat_list_cmp_total}
pub use Rattle.std.proofs.lemmas.Fn.{always_returns_same}
pub use Rattle.std.proofs.lemmas.List.{append-nil, append_assoc, get_or-map, get_or_append_left, get_or_read, length-map, map-id, length-take-le}
pub use Rattle.std.proofs.lemmas.List.Folds.{list_any_at}
pub use Rattle.std.proofs.lemmas.List.FromFn.{get_or-map-range_with_len, get_or-range_with_len, length-range_with_len}
pub use Rattle.std.proofs.lemmas.List.Kept.{IsStrictlySortedBy-filter}
pub use Rattle.std.proofs.lemmas.Map.Lookups.{exact_unsigned}
pub use Rattle.std.proofs.lemmas.Map.Text.{is_eq-slice_cmp}
pub use Rattle.std.specs.BTreeMap.{BTreeMap, is_at}
pub use Rattle.std.specs.Cmp.Lexicographic.{same_text}
pub use Rattle.std.specs.Global.{Vec}
pub use Rattle.std.specs.List.{list_any, position_from, range_with_len}
pub use Rattle.std.specs.List.Sorted.{IsBinarySearchResult, IsStrictlySortedBy}
pub use Rattle.std.specs.Map.{lookup}
pub use Rattle.std.specs.Ordering.{eq_by_cmp}
pub use Rattle.std.specs.Result.{result_ok}
pub use mathlib.Core.List.{map-map}
