-- Objects and arrays that are gathered one after another.
use Rattle.std.proofs.Common.{◌≡◌, ℕ, List, refl, true}
use Rattle.std.specs.Prelude.{bytes_eq}
use Rattle.std.proofs.lemmas.Slice.Eq.{bytes_eq-Decides}
use Rattle.serde_json.specs.Data.{Data}

abbrev pub Named : Type 0
Named = List ℕ × Data

pub bytes_eq_refl : (xs : List ℕ) → bytes_eq xs xs ≡ true
bytes_eq_refl xs = (bytes_eq-Decides xs xs).1 refl
