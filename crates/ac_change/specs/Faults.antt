-- Faults that are told, or a refused growth, which says nothing of the input.
use Rattle.std.specs.Prelude.{◌≡◌, ⊤, ℕ, Option, Some}
use Rattle.ac_change.specs.declared.fault.ChangeFault.{ChangeFault}
use Rattle.ac_change.specs.declared.fault.ChangeFault.TheVariants as fault
use Rattle.ac_change.specs.declared.fault.ChangeKind.{ChangeKind}
use Rattle.ac_change.specs.declared.fault.Failed.{Failed}
use Rattle.ac_change.specs.declared.fault.Failed.TheVariants as failed

-- of one change
abbrev pub TellsKind : Option ChangeKind → Failed → Type 0
TellsKind first (failed.Kind why) = first ≡ Some why
TellsKind first failed.NoMemory = ⊤

-- of all, with the number of a line
abbrev pub TellsLine : Option (ℕ × ChangeKind) → ChangeFault → Type 0
TellsLine first (fault.At line why) = first ≡ Some (line, why)
TellsLine first fault.NoMemory = ⊤
