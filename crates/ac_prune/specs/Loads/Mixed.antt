-- What slots weigh that ask one of two amounts of a class, and what a provider bears of it.
use Rattle.std.specs.Prelude.{◌≡◌, ℕ, ◌+◌, ◌*◌, ◌/◌, ◌%◌, ◌<◌, nat_le, if◌then◌else◌, List, length, slice_index}

-- a piece for the lesser amount, so many for the greater
abbrev pub mixed_weight : ℕ → ℕ → ℕ → ℕ → ℕ
mixed_weight small large times amount = if nat_le large amount then times else (if nat_le small amount then 1 else 0)

-- as often as the greater is there so many, and the pieces of the lesser in the rest
abbrev pub mixed_room : ℕ → ℕ → ℕ → ℕ → ℕ
mixed_room small large times left = left / large * times + left % large / small

-- of each room
abbrev pub AreMixed : List ℕ → ℕ → ℕ → ℕ → List ℕ → Type 0
AreMixed rooms small large times mixed = (p : ℕ) → p < length rooms → slice_index mixed p ≡ mixed_room small large times (slice_index rooms p)
