use Rattle.std.proofs.Common.{◌≡◌, ◌++◌, map}
use Rattle.ac_base.specs.Names.{trait_bytes}
use Rattle.ac_query.specs.Shown.{names_shown}
use Rattle.ac_query.proofs.reading.traits.names_in_order.Given as goal

abbrev pub invariant-loop-name : goal.invariant-loop-name
invariant-loop-name l = map trait_bytes l.list.items ++ map trait_bytes l.name-iterator ≡ names_shown l.fn.names
