-- A text that is pushed part by part.
use Rattle.std.proofs.lemmas.Grind.{common_steps}
use Rattle.std.proofs.Common.{◌≡◌, ◌≤◌, ℕ, List, ◌++◌, Option, arith, subst}
use Rattle.std.specs.Prelude.{Result, Ok, Err}
use Rattle.std.specs.Result.{IsErrAnd}
use Rattle.ac_base.specs.Writing.{Pushes}
use Rattle.ac_base.proofs.Leaving.{Leaves, behind, leaves_appends, leaves_start}
use Rattle.ac_base.proofs.Pushed.{pushed_within}

-- of a whole text all but a rest was pushed
pub record IsBegun {S : Type 0} (taken : S → Option (List ℕ)) (fails : S → ℕ) (from to : S) (whole rest : List ℕ) : Type 0 where
  pub leaves : Leaves (taken from) (taken to) whole rest
  pub failures : fails from ≤ fails to

module _ {S : Type 0} {taken : S → Option (List ℕ)} {fails : S → ℕ} where
  pub begun_start : (a : S) {whole rest : List ℕ} → whole ≡ rest → IsBegun taken fails a a whole rest
  begun_start a {whole = whole} is = subst (IsBegun taken fails a a whole) is record { leaves = leaves_start (taken a) whole; failures = omega arith }

  module _ {a b c : S} {whole : List ℕ} (next rest : List ℕ) (begun : IsBegun taken fails a b whole (next ++ rest)) where
    -- the next part
    pub begun_more : {X Y : Type 0} {x : X} → Pushes {Y = Y} taken fails b c (Ok x) next → IsBegun taken fails a c whole rest
    begun_more pushed = record {
      leaves = leaves_appends (taken a) (taken b) (taken c) whole next rest begun.leaves pushed.ok;
      failures = omega (arith, begun.failures, pushed.failures);
    }

    -- an error within it
    pub begun_stops : {X Y Z E : Type 0} {e : E} {r : Result X Y} (P : Y → Type 0) → Pushes {X = Z} taken fails b c (Err e) next → IsErrAnd r P
        → Pushes taken fails a c r whole
    begun_stops {r = r} P pushed is =
        pushed_within taken fails a b c r whole next rest P begun.leaves begun.failures pushed.failures is pushed.part pushed.rises

  -- ---- texts that are told otherwise

  module _ {X Y : Type 0} {r : Result X Y} where
    pub pushed_told : {a b : S} {s t : List ℕ} → s ≡ t → Pushes taken fails a b r s → Pushes taken fails a b r t
    pushed_told {a = a} {b = b} is pushed = subst (Pushes taken fails a b r) is pushed

    -- one text behind another
    pushed_on : {Z T : Type 0} {z : Z} (a b c : S) (x y : List ℕ) → Pushes {Y = T} taken fails a b (Ok z) x → Pushes taken fails b c r y → Pushes taken fails a c r (x ++ y)
    pushed_on a b c x y done next = grind (arith, common_steps, behind)

    pub pushed_behind : {Z T : Type 0} {z : Z} {a b c : S} {s t x y : List ℕ} → s ≡ x → t ≡ y → Pushes {Y = T} taken fails a b (Ok z) s
        → Pushes taken fails b c r t → Pushes taken fails a c r (x ++ y)
    pushed_behind {z = z} {a = a} {b = b} {c = c} {x = x} {y = y} first second before then =
        pushed_on a b c x y (subst (Pushes taken fails a b (Ok z)) first before) (pushed_told second then)
