-- Inventories and their quantities.
use Rattle.std.specs.Prelude.{ℕ, ◌-◌, ◌*◌, ◌/◌, ◌%◌, ◌<◌, ◌≤◌, Bool, ◌&&◌, ◌==◌, nat_le, Option, Some, None, if◌then◌else◌}
use Rattle.ac_base.specs.Texts.{greatest, greatest_ratio}

-- what an inventory says; the ratio is in millionths
pub record InventoryNumbers : Type 0 where
  pub total : ℕ
  pub reserved : ℕ
  pub min_unit : ℕ
  pub max_unit : ℕ
  pub step_size : ℕ
  pub ratio : ℕ

-- the whole part of (total - reserved) times the ratio
abbrev pub capacity : InventoryNumbers → ℕ
capacity i = (i.total - i.reserved) * i.ratio / 1000000

-- min_unit <= amount <= max_unit, and step_size divides the amount
abbrev pub units : InventoryNumbers → ℕ → Bool
units i amount = nat_le i.min_unit amount && nat_le amount i.max_unit && (amount % i.step_size == 0)

-- whether these numbers are an inventory: none is too great, no more is reserved than there is, and the step isn't 0
abbrev pub is_inventory : InventoryNumbers → Bool
is_inventory i = nat_le i.total greatest && nat_le i.min_unit greatest && nat_le i.max_unit greatest && nat_le i.step_size greatest && nat_le i.reserved i.total && nat_le 1 i.step_size

-- the inventory of these numbers, where they are one
abbrev pub checked_inventory : InventoryNumbers → Option InventoryNumbers
checked_inventory i = if is_inventory i then Some i else None

-- what holds of each inventory
pub record IsInventory (i : InventoryNumbers) : Type 0 where
  pub total : i.total ≤ greatest
  pub reserved : i.reserved ≤ i.total
  pub min_unit : i.min_unit ≤ greatest
  pub max_unit : i.max_unit ≤ greatest
  pub step_size : 0 < i.step_size
  pub step_size_small : i.step_size ≤ greatest
  pub ratio : i.ratio ≤ greatest_ratio
