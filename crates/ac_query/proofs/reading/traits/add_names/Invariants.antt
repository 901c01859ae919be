use Rattle.std.proofs.Common.{◌≡◌, map}
use Rattle.ac_base.specs.Names.{trait_bytes}
use Rattle.ac_query.specs.Texts.{in_order_with}
use Rattle.ac_query.specs.Shown.{names_shown}
use Rattle.ac_query.proofs.reading.traits.add_names.Given as goal

abbrev pub invariant-loop-name : goal.invariant-loop-name
invariant-loop-name l = in_order_with (names_shown l.names) (map trait_bytes l.name-iterator) ≡ in_order_with (names_shown l.fn.names) (names_shown l.fn.more)
