use Rattle.std.proofs.Common.{◌≡◌, map}
use Rattle.ac_base.specs.Names.{suffix_bytes}
use Rattle.ac_query.specs.Texts.{in_order_with}
use Rattle.ac_query.specs.Shown.{suffixes_shown}
use Rattle.ac_query.proofs.reading.check.add_suffixes.Given as goal

abbrev pub invariant-loop-suffix : goal.invariant-loop-suffix
invariant-loop-suffix l = in_order_with (suffixes_shown l.listed) (map suffix_bytes l.suffix-iterator) ≡ in_order_with (suffixes_shown l.fn.listed) (suffixes_shown l.names)
