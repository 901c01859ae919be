-- Laws of the definitions.
use Rattle.std.specs.Prelude.{◌≡◌, ℕ, true, List, ◌++◌, drop, length, is_some}
use Rattle.std.specs.List.{list_all}
use Rattle.ac_base.specs.Texts.{is_digit, is_zero, in_millionths}

-- Digits with some behind the point are a whole number of millionths exactly where all behind the sixth of these are 0.
abbrev pub SixDecimals : Type 0
SixDecimals =
    (whole fraction : List ℕ) → list_all is_digit fraction ≡ true
    → is_some (in_millionths (whole ++ fraction) (length fraction)) ≡ list_all is_zero (drop 6 fraction)
