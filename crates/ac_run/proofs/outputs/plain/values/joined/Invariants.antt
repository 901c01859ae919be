use Rattle.std.proofs.Common.{◌≡◌, ◌∷◌, ◌++◌, drop, map}
use Rattle.std.specs.List.{flat_map, join_with_byte}
use Rattle.std.specs.String.{string_bytes}
use Rattle.ac_run.proofs.outputs.plain.values.joined.Given as goal

-- the text, and what is still to come
abbrev pub invariant-loop-text : goal.invariant-loop-text
invariant-loop-text l =
    string_bytes l.joined ++ flat_map (λ text. l.mark ∷ text) (map string_bytes (drop l.text-index l.later))
    ≡ join_with_byte l.mark (map string_bytes l.texts)
