-- The names that most proofs of this crate cite, passed on from one place. Declares nothing.
pub use Rattle.std.proofs.Common.{All, Bool, Err, IfSome, List, None, Ok, Option, Result, Some, [], ap, ap₂, arith, bytes_eq, codes, drop, drop-cons, false, filter, get_or, if◌then◌else◌, inl, inr, is_eq, is_none, is_some, length, map, nat_cmp, nat_le, nat_lt, not, option_and_then, option_map, refl, rules, subst, suc, sym, take, true, unwrap_or, zero, ℕ, ◌&&◌, ◌++◌, ◌+◌, ◌-◌, ◌<◌, ◌==◌, ◌^◌, ◌||◌, ◌∙◌, ◌∷◌, ◌≡◌, ◌≢◌, ◌≤◌, ◌⊎◌}
pub use Rattle.std.proofs.lemmas.Bool.{cases_Bool, cases_eq, cases_lt, false≢true}
pub use Rattle.std.proofs.lemmas.List.{append-nil, append_assoc, get_or-map, length-map, map-id}
pub use mathlib.Core.List.{map-map}
pub use Rattle.std.specs.List.{list_any, AllByRecursion}
pub use Rattle.std.specs.Ordering.{is_lt}
pub use Rattle.std.specs.Cmp.{IsTotalOrder}
pub use Rattle.std.specs.Map.{keys_of}
