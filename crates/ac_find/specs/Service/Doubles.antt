-- Capacities in floating point, as arithmetic on natural numbers.
use Rattle.std.specs.Prelude.{ℕ, ◌+◌, ◌-◌, ◌*◌, ◌/◌, ◌%◌, ◌^◌, nat_lt, if◌then◌else◌}
use Rattle.std.specs.Int.Count.{count_leading_zeros}
use Rattle.ac_base.specs.Quantities.{InventoryNumbers}

-- the whole number nearest to the fraction a / b, and of two that are as near the even one
unfoldable pub nearest : ℕ → ℕ → ℕ
nearest a b = if nat_lt (a % b) (b - a % b) then a / b else if nat_lt (b - a % b) (a % b) then a / b + 1 else a / b + a / b % 2

-- how many binary digits a number below 2 ^ 128 has
abbrev pub digits_of : ℕ → ℕ
digits_of n = 128 - count_leading_zeros 128 n

-- the step from one number of so many binary digits to the next, where they have as many in all as n has
unfoldable pub step : ℕ → ℕ → ℕ
step digits n = 2 ^ (digits_of n - digits)

-- the fraction a / b rounded to so many binary digits: to the nearest multiple of the step
unfoldable pub rounded : ℕ → ℕ → ℕ → ℕ
rounded digits a b = nearest a (b * step digits (a / b)) * step digits (a / b)

-- a ratio in millionths, as the nearest number of so many binary digits, in units of 2 ^ -74: so the least ratio has 55 digits, and none is lost
unfoldable pub held : ℕ → ℕ → ℕ
held digits ratio = rounded digits (ratio * 2 ^ 74) 1000000

-- The capacity by a ratio of so many binary digits: the product rounded to the 53 of a double, and of that the whole part. A double has 53 itself,
-- and a number in single precision 24.
unfoldable pub capacity_by : ℕ → InventoryNumbers → ℕ
capacity_by digits i = rounded 53 ((i.total - i.reserved) * held digits i.ratio) 1 / 2 ^ 74
