-- What a room of bytes holds.
use Rattle.std.specs.Prelude.{◌≡◌, ℕ, ◌+◌, List, length, take, vec_len, slice_range}
use Rattle.ac_base.specs.declared.device.Pull.{Pull}
use Rattle.ac_base.specs.declared.device.Pull.TheVariants as pull
use Rattle.ac_session.specs.declared.lines.room.Room.{Room}

-- the bytes that came and weren't taken yet
abbrev pub held : Room → List ℕ
held room = slice_range room.bytes.items room.start room.end

-- the bytes that were taken last
abbrev pub taken : Room → List ℕ
taken room = slice_range room.bytes.items room.last room.start

-- how many bytes it may hold
abbrev pub size_of : Room → ℕ
size_of room = vec_len room.bytes

-- so many bytes came behind those that are held
abbrev pub Grows : Pull → List ℕ → List ℕ → Type 0
Grows (pull.Got count) old new = (take (length old) new ≡ old) × (length new ≡ length old + count)
Grows pull.Again old new = new ≡ old
Grows pull.Failed old new = new ≡ old
