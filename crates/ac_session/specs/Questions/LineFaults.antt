-- What is told of a line that asks nothing.
use Rattle.std.specs.Prelude.{ℕ, List, codes}
use Rattle.ac_session.specs.declared.line_faults.LineFault.{LineFault}
use Rattle.ac_session.specs.declared.line_faults.LineFault.TheVariants as fault

-- what is wrong with it
abbrev pub fault_line : LineFault → List ℕ
fault_line fault.UnknownCommand = codes "session: unknown command\n"
fault_line fault.WrongNumber = codes "session: wrong number of words\n"
fault_line fault.TooLong = codes "session: line too long\n"

-- its status
abbrev pub fault_status : ℕ
fault_status = 2
