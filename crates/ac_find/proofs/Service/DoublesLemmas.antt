-- Bounds of what is rounded to so many binary digits.
use Rattle.std.proofs.Common.{ℕ, zero, suc, ◌+◌, ◌-◌, ◌*◌, ◌/◌, ◌^◌, ◌≤◌, ◌<◌, arith}
use Rattle.std.specs.Int.Count.{count_leading_zeros}
use Rattle.std.proofs.Math.Nat.{div-div-eq-div-mul, div-mul-le_self, mul-le-mul_right}
use Rattle.std.proofs.Math.Pow.{pow_mono}
use Rattle.std.proofs.lemmas.Nat.{leading_length}

below_half : (m e n : ℕ) → e ≤ m - 1 → 2 ^ m ≤ 2 * n + 1 → 2 ^ e ≤ n + 1
below_half zero e n less near = let under = pow_mono {j = 0} less in omega (arith, under)
below_half (suc k) e n less near = let under = pow_mono {i = e} {j = k} (omega (arith, less)) in omega (arith, under, near)

-- a step is at most 1 above the number that it is taken by
pub step_near : (digits n : ℕ) → 24 ≤ digits → n < 2 ^ 128 → 2 ^ (128 - count_leading_zeros 128 n - digits) ≤ n + 1
step_near digits n many small =
    let (m, whole, below, near) = leading_length 128 n small in
    below_half m (128 - count_leading_zeros 128 n - digits) n (omega (arith, whole, many)) near

-- and of 24 digits or more it is at most 2 ^ 104
pub step_small : (digits before : ℕ) → 24 ≤ digits → 2 ^ (128 - before - digits) ≤ 2 ^ 104
step_small digits before many = pow_mono {j = 104} (omega (arith, many))

-- a nearest multiple of a step is at most a step above the fraction
pub multiple_near : (whole a b s : ℕ) → whole ≤ a / (b * s) + 1 → whole * s ≤ a / b + s
multiple_near whole a b s near =
    let parts = div-div-eq-div-mul a b s in
    let under = div-mul-le_self (a / b) s in
    let more : whole * s ≤ (a / b / s + 1) * s = mul-le-mul_right s (omega (arith, near, parts)) in
    omega (arith, more, under)
