-- What the front of a row shows.
use Rattle.std.specs.Prelude.{ℕ, List, [], ◌∷◌}
use Rattle.ac_report.specs.declared.findings.why_rows.row.Front.{Front}

abbrev pub front_shown : Front → List (List ℕ)
front_shown front = front.slot.now ∷ front.suffix.now ∷ front.asks.now ∷ []
