-- The digits behind the point of a ratio, alone; and ratios in thousandths, as they were defined before millionths.
use Rattle.std.specs.Prelude.{◌≡◌, ℕ, ◌+◌, ◌-◌, ◌*◌, ◌/◌, ◌^◌, List, take, drop, length, position, Option, Some, None, if◌then◌else◌}
use Rattle.std.specs.List.{list_all}
use Rattle.std.specs.Option.{option_map, option_and_then}
use Rattle.ac_base.specs.Texts.{are_digits, in_millionths, is_zero, is_point, number, at_most, ratio_value}
use Rattle.ac_base.specs.Quantities.{InventoryNumbers, capacity}

-- the millionths that digits behind the point are
unfoldable pub fraction_value : List ℕ → Option ℕ
fraction_value ds = if are_digits (length ds) ds then in_millionths ds (length ds) else None

-- ---- in thousandths: nothing cites them but the law that each ratio keeps its capacities

-- digits behind the point, in thousandths: behind three of them all are 0
abbrev pub old_fraction : List ℕ → Option ℕ
old_fraction ds = if list_all is_zero (drop 3 ds) then option_map (λ v. v * 10 ^ (3 - length ds)) (number 3 (take 3 ds)) else None

-- the thousandths of digits with perhaps a point at this place
abbrev pub old_parts : List ℕ → Option ℕ → Option ℕ
old_parts b None = option_map (λ w. w * 1000) (number 7 b)
old_parts b (Some i) = option_and_then (λ w. option_map (λ f. w * 1000 + f) (old_fraction (drop (i + 1) b))) (number 7 (take i b))

-- the ratio that a text said, in thousandths and at most 1000000
abbrev pub thousandths : List ℕ → Option ℕ
thousandths b = option_and_then (at_most 1000000000) (old_parts b (position is_point b))

-- the capacity of an inventory whose ratio is in thousandths
abbrev pub old_capacity : InventoryNumbers → ℕ
old_capacity i = (i.total - i.reserved) * i.ratio / 1000

-- Each text that had thousandths has 1000 times as many millionths, and with them each inventory has the capacity that it had.
abbrev pub OldRatiosKeep : Type 0
OldRatiosKeep =
    (b : List ℕ) (n : ℕ) → thousandths b ≡ Some n
    → (ratio_value b ≡ Some (n * 1000))
    × ((i : InventoryNumbers) → capacity (record i { ratio = n * 1000 }) ≡ old_capacity (record i { ratio = n }))
