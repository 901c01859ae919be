-- What draining a feed answers.
use Rattle.std.specs.Prelude.{◌≡◌, ℕ, ◌<◌, List, length, Option}
use Rattle.std.specs.Option.{IfSome}

-- the most bytes of a table
abbrev pub most_bytes : ℕ
most_bytes = 67108864

-- where the bytes are known, these are all of them, and they are few enough
abbrev pub AllBytes : Option (List ℕ) → List ℕ → Type 0
AllBytes known bytes = IfSome known (λ all. bytes ≡ all)

-- where the bytes are known, they are too many
abbrev pub AreTooMany : Option (List ℕ) → Type 0
AreTooMany known = IfSome known (λ all. most_bytes < length all)
