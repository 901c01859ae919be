use Rattle.std.proofs.Common.{◌≡◌, ◌++◌, map, take}
use Rattle.ac_report.specs.Names.{shown_byte}
use Rattle.ac_report.proofs.names.put_text.Given as goal

abbrev pub invariant-loop-byte : goal.invariant-loop-byte
invariant-loop-byte l = l.shown.items ≡ l.fn.shown.items ++ map shown_byte (take l.byte-index l.text)
