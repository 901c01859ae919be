-- The inventories of each provider, of rows in order.
use Rattle.ac_tables.proofs.Common.{◌≡◌, ◌==◌, ℕ, List, map, length, get_or, refl, filter, range_with_len, class_bytes, InventoryNumbers, text_cmp, ClassName, IsRising, class_pair, inventory_shown, InventoryRecord, same_place, TableRow}
use Rattle.ac_tables.specs.Reader.InventoryRows.{AreInventories}
use Rattle.ac_tables.specs.Tables.{inventories_of}
use Rattle.ac_tables.proofs.Sorted.RowLists.{of_each}
use Rattle.ac_tables.proofs.Sorted.ProviderMaps.{shown_map}

pub inventory_lists_here : (ids : List ℕ) → IsRising ids → (said : List InventoryRecord) (rows : List (TableRow ClassName InventoryNumbers)) → AreInventories ids said rows
    → (lists : List (List (TableRow ClassName InventoryNumbers))) → lists ≡ map (λ p. filter (λ (r : TableRow ClassName InventoryNumbers). r.place == p) rows) (range_with_len 0 (length ids))
    → map (map class_pair) lists ≡ map (inventories_of said) ids
unfolding inventories_of
inventory_lists_here ids rising said rows table lists are =
    of_each rows (map class_pair) (inventories_of said) ids lists are (λ p h.
    shown_map (λ a b. text_cmp (class_bytes a) (class_bytes b)) class_bytes (λ a b. refl) (inventory_shown ids) (length ids) said rows table (λ (v : InventoryRecord). v.provider) (λ (v : InventoryRecord). (v.class, v.inventory)) p (get_or ids p 0)
    (λ r inside. same_place ids rising r.place p inside h)
    (λ r. refl))
