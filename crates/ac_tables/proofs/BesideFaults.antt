-- The first fault of a table beside the five.
use Rattle.std.proofs.Common.{ℕ, None, Option, Some}
use Rattle.std.specs.Option.{option_or}
use Rattle.ac_tables.specs.Beside.{TellsBeside}
use Rattle.ac_tables.specs.declared.beside.BesideFault.{BesideFault}
use Rattle.ac_tables.specs.declared.beside.BesideFault.TheVariants as fault
use Rattle.ac_tables.specs.declared.fault.TableKind.{TableKind}

-- what is told of the first of two is told of both
pub tells_first : (first other : Option (ℕ × TableKind)) (e : BesideFault) → TellsBeside first e → TellsBeside (option_or first other) e
tells_first None other (fault.At row kind) h = absurd (cc)
tells_first (Some found) other (fault.At row kind) h = h
tells_first first other fault.NoMemory h = tt
