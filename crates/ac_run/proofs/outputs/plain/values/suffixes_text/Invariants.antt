use Rattle.std.proofs.Common.{◌≡◌, ◌++◌, map}
use Rattle.std.specs.String.{string_bytes}
use Rattle.ac_base.specs.Names.{suffix_bytes}
use Rattle.ac_query.specs.Shown.{suffixes_shown}
use Rattle.ac_run.proofs.outputs.plain.values.suffixes_text.Given as goal

abbrev pub invariant-loop-suffix : goal.invariant-loop-suffix
invariant-loop-suffix l = map string_bytes l.texts.items ++ map suffix_bytes l.suffix-iterator ≡ suffixes_shown l.suffixes
