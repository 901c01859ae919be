-- Inventories beside how much of each is used.
use Rattle.std.specs.Prelude.{ℕ, List, [], ◌∷◌}
use Rattle.ac_base.specs.Quantities.{InventoryNumbers}
use Rattle.ac_base.specs.Sorted.{TextMap}
use Rattle.ac_cloud.specs.World.{UsedInventory}
use Rattle.ac_tables.specs.Tables.{with_used}

-- the inventories of each provider beside how much of each is used
abbrev pub with_used_lists : List (TextMap ℕ) → List (TextMap InventoryNumbers) → List (TextMap UsedInventory)
with_used_lists [] inventories = []
with_used_lists (u ∷ us) [] = []
with_used_lists (u ∷ us) (s ∷ ss) = with_used u s ∷ with_used_lists us ss
