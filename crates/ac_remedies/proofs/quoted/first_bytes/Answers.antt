use Rattle.std.proofs.Common.{sym, arith}
use Rattle.std.proofs.lemmas.List.{take_all}
use Rattle.ac_remedies.proofs.quoted.first_bytes.Goals as goal

pub returns-else-value-gt-MOST_SHOWN : goal.returns-else-value-gt-MOST_SHOWN
returns-else-value-gt-MOST_SHOWN c = sym (take_all 64 c.args.value.now (omega arith))
