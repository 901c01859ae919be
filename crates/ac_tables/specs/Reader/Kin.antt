-- Providers whose parents are there and whose chains of parents end.
use Rattle.std.specs.Prelude.{◌≡◌, ◌<◌, ℕ, true, false, List, length, get_or, Some}
use Rattle.ac_tables.specs.Tables.ProviderTable.{ProviderRecord, said_parent}
use Rattle.ac_base.specs.Sorted.{is_one_of}
use Rattle.ac_cloud.specs.Trees.{is_endless}

pub record AreKin (ids : List ℕ) (rows : List ProviderRecord) : Type 0 where
  pub known : (i q : ℕ) → i < length ids → said_parent rows (get_or ids i 0) ≡ Some q → is_one_of ids q ≡ true
  pub ends : (i : ℕ) → i < length ids → is_endless (said_parent rows) (length ids) (get_or ids i 0) ≡ false
