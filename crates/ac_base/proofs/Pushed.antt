-- What is pushed of several texts, if an error comes within one.
use Rattle.std.proofs.Common.{ℕ, ◌≤◌, List, ◌++◌, Option, arith}
use Rattle.std.specs.Prelude.{Result, Ok, Err}
use Rattle.std.specs.Result.{IsErrAnd}
use Rattle.ac_base.specs.Devices.{Rises, TakesPart}
use Rattle.ac_base.proofs.HandedOn.{later_rise}
use Rattle.ac_base.proofs.Leaving.{Leaves, leaves_takes_part}
use Rattle.ac_base.specs.Writing.{Pushes}

module _ {S X Y : Type 0} (taken : S → Option (List ℕ)) (failures : S → ℕ) where
  -- an error after a first part
  pushed_part : (a b : S) (r : Result X Y) (P : Y → Type 0) (text : List ℕ) → IsErrAnd r P → TakesPart (taken a) (taken b) text → Rises (failures a) (failures b) → failures a ≤ failures b
      → Pushes taken failures a b r text
  pushed_part a b (Ok x) P text is part rises few = absurd is
  pushed_part a b (Err e) P text is part rises few = record { ok = tt; part = part; rises = rises; failures = few }

  -- an error within the next of several texts is one within all
  pub pushed_within : (a b c : S) (r : Result X Y) (whole next rest : List ℕ) (P : Y → Type 0) → Leaves (taken a) (taken b) whole (next ++ rest)
      → failures a ≤ failures b → failures b ≤ failures c → IsErrAnd r P → TakesPart (taken b) (taken c) next → Rises (failures b) (failures c) → Pushes taken failures a c r whole
  pushed_within a b c r whole next rest P leaves before after is part rises =
      pushed_part a c r P whole is (leaves_takes_part (taken a) (taken b) (taken c) whole next rest leaves part)
      (later_rise (failures a) (failures b) (failures c) before after rises) (omega (arith, before, after))
