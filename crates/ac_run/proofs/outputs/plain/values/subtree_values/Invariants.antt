use Rattle.std.proofs.Common.{◌≡◌, ◌++◌, drop, map}
use Rattle.std.specs.List.{join_with_byte}
use Rattle.std.specs.String.{string_bytes}
use Rattle.ac_query.specs.Shown.{suffixes_shown}
use Rattle.ac_run.proofs.outputs.plain.values.subtree_values.Given as goal

abbrev pub invariant-loop-suffixes : goal.invariant-loop-suffixes
invariant-loop-suffixes l =
    map string_bytes l.values.items ++ map (λ names. join_with_byte 44 names) (map suffixes_shown (drop l.suffixes-index l.lists))
    ≡ map (λ names. join_with_byte 44 names) (map suffixes_shown l.lists)
