-- What a sink that gathers has taken, and what of it stands in the sink below.
pub mod Below
use Rattle.std.specs.Prelude.{◌≡◌, ℕ, ◌+◌, List, ◌++◌, take, Option, Some, None, ⊤}
use Rattle.std.specs.Io.KnownBytes.{append_known}
use Rattle.ac_base.specs.declared.device.Push.{Push}
use Rattle.ac_base.specs.declared.device.Push.TheVariants as push

-- the bytes of the sink below, and then those in the room
abbrev pub gathered : Option (List ℕ) → ℕ → List ℕ → Option (List ℕ)
gathered below used room = append_known below (take used room)

-- what stands in a sink is a first part of known bytes
abbrev pub IsFirstPart : Option (List ℕ) → Option (List ℕ) → Type 0
IsFirstPart None part = ⊤
IsFirstPart (Some bytes) None = ⊥
IsFirstPart (Some bytes) (Some part) = (rest : List ℕ) × (bytes ≡ part ++ rest)

-- so many of the bytes in a full room were handed on; the others are still in it
abbrev pub HandsOn : Push → ℕ → ℕ → Type 0
HandsOn (push.Took n) size used = used + n ≡ size
HandsOn push.Again size used = used ≡ size
HandsOn push.Failed size used = used ≡ size
