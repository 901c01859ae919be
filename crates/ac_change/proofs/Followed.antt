-- Changes that follow one another.
use Rattle.ac_change.proofs.Common.{◌≡◌, ◌∷◌, ℕ, List, Result, Ok, Err, ap}
use Rattle.std.specs.Result.{result_err}
use Rattle.ac_cloud.specs.World.{Provider}
use Rattle.ac_change.specs.Changes.{Change, all_changed, and_then, changed, told_at}
use Rattle.ac_change.specs.Faults.{TellsLine}
use Rattle.ac_change.specs.declared.fault.ChangeFault.{ChangeFault}
use Rattle.ac_change.specs.declared.fault.ChangeFault.TheVariants as fault
use Rattle.ac_change.specs.declared.fault.ChangeKind.{ChangeKind}

-- after the first, the others
pub next_changed : (all left : List Provider) (c : ℕ × Change) (rest : List (ℕ × Change)) → told_at c.0 (changed all c.1) ≡ Ok left → all_changed all (c ∷ rest) ≡ all_changed left rest
next_changed all left c rest is = ap (and_then (λ l. all_changed l rest)) is

fault_next : {X Y : Type 0} (f : X → Result Y (ℕ × ChangeKind)) (r : Result X (ℕ × ChangeKind)) (e : ChangeFault) → TellsLine (result_err r) e → TellsLine (result_err (and_then f r)) e
fault_next f (Ok value) (fault.At line why) h = absurd (cc)
fault_next f (Err told) (fault.At line why) h = h
fault_next f r fault.NoMemory h = tt

-- the fault of the first is that of all
pub first_fault : (all : List Provider) (c : ℕ × Change) (rest : List (ℕ × Change)) (e : ChangeFault) → TellsLine (result_err (told_at c.0 (changed all c.1))) e → TellsLine (result_err (all_changed all (c ∷ rest))) e
first_fault all c rest e h = fault_next (λ l. all_changed l rest) (told_at c.0 (changed all c.1)) e h

pub ruleset told = (next_changed, first_fault)
