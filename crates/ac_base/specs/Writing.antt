-- What a sink takes of a text.
pub mod Rows
pub mod Pieces
pub mod Digits
use Rattle.std.specs.Prelude.{◌≤◌, ℕ, List, Option, Result, OnOk, OnErr}
use Rattle.std.specs.Io.KnownBytes.{Appends}
use Rattle.ac_base.specs.Devices.{Rises, TakesPart}

-- A text was pushed: whole, or a first part of it, and then the sink's count of failures rose. That count never falls.
pub record Pushes {S X Y : Type 0} (taken : S → Option (List ℕ)) (fails : S → ℕ) (old new : S) (result : Result X Y) (text : List ℕ) : Type 0 where
  pub ok : OnOk result (Appends (taken old) (taken new) text)
  pub part : OnErr result (TakesPart (taken old) (taken new) text)
  pub rises : OnErr result (Rises (fails old) (fails new))
  pub failures : fails old ≤ fails new

-- a sink took a first part of a text, the whole text where its count of failures didn't rise
pub record TakesLine (old new : Option (List ℕ)) (before after : ℕ) (text : List ℕ) : Type 0 where
  pub part : TakesPart old new text
  pub whole : (Rises before after → ⊥) → Appends old new text
