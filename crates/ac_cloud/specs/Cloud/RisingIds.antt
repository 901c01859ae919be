-- Lists of numbers that rise.
use Rattle.std.specs.Prelude.{ℕ, ◌<◌, List, length, get_or}

-- each number is below those after it
abbrev pub IsRising : List ℕ → Type 0
IsRising ids = (i j : ℕ) → i < j → j < length ids → get_or ids i 0 < get_or ids j 0
