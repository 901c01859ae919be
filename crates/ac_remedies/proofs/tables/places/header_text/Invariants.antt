use Rattle.std.proofs.Common.{◌≡◌, ◌∷◌, ◌++◌, drop}
use Rattle.std.specs.List.{flat_map}
use Rattle.csv.specs.Records.{fields_of}
use Rattle.ac_remedies.specs.Tables.Places.{header_text}
use Rattle.ac_remedies.proofs.tables.places.header_text.Given as goal

-- the text, and the fields that are still to come
abbrev pub invariant-loop-field : goal.invariant-loop-field
invariant-loop-field l =
    l.text.items ++ flat_map (λ field. 44 ∷ field) (drop l.field-iterator.at (fields_of l.field-iterator.row.now)) ≡ header_text (fields_of l.fn.header)
