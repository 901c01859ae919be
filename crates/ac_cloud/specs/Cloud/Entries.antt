-- What an entry shows.
use Rattle.std.specs.Prelude.{◌≡◌, ◌<◌, ◌==◌, ℕ, Bool, false, List, length, get_or, Option, None, Some, IfSome}
use Rattle.std.specs.Str.{bytes_eq}
use Rattle.ac_base.specs.Names.{class_bytes}
use Rattle.ac_base.specs.Quantities.{InventoryNumbers}
use Rattle.ac_base.specs.declared.name.ClassName.{ClassName}
use Rattle.ac_cloud.specs.World.{UsedInventory}
use Rattle.ac_cloud.specs.declared.cloud.entry.Entry.{Entry}

-- the entry of an inventory of a class, of which so much is used
abbrev pub entry_with : ClassName → InventoryNumbers → ℕ → Entry
entry_with class inventory used = record { class = class; inventory = inventory; used = used }

-- its class
abbrev pub entry_class : Entry → List ℕ
entry_class e = class_bytes e.class

-- its inventory, and how much is used
abbrev pub entry_value : Entry → UsedInventory
entry_value e = record { inventory = e.inventory; used = e.used }

-- both
abbrev pub entry_pair : Entry → List ℕ × UsedInventory
entry_pair e = (entry_class e, entry_value e)

-- the same entry, of which so much is used
abbrev pub entry_set : ℕ → Entry → Entry
entry_set used e = record e { used = used }

-- a place is this one
abbrev pub is_there : Option ℕ → ℕ → Bool
is_there None k = false
is_there (Some place) k = place == k

-- A class stands at a place of a list of entries, and at no other; or at none.
pub record StandsAlone (class : List ℕ) (entries : List Entry) (place : Option ℕ) : Type 0 where
  pub inside : IfSome place (λ k. k < length entries)
  pub alone : (k : ℕ) (d : Entry) → k < length entries → bytes_eq class (entry_class (get_or entries k d)) ≡ is_there place k
