-- The numbers from one on below another.
use Rattle.std.proofs.Common.{◌≡◌, ℕ, ◌+◌, ◌-◌, ◌<◌, ◌≤◌, suc, [], ◌∷◌, ap, arith}
use Rattle.std.specs.List.{range_with_len}

-- k, and then the rest
pub range_more : (n k : ℕ) → k < n → range_with_len k (n - k) ≡ k ∷ range_with_len (k + 1) (n - (k + 1))
range_more n k h = let less : n - k ≡ suc (n - (k + 1)) = omega arith in ap (range_with_len k) less

pub range_end : (n k : ℕ) → n ≤ k → range_with_len k (n - k) ≡ []
range_end n k h = let none : n - k ≡ 0 = omega arith in ap (range_with_len k) none
