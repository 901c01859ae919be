-- The digits that a room holds.
use Rattle.std.specs.Prelude.{ℕ, List, drop}
use Rattle.ac_base.specs.declared.pieces.digits.Digits.{Digits}

abbrev pub digits_shown : Digits → List ℕ
digits_shown d = drop d.start d.room
