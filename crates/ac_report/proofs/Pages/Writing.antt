-- What is written by writers that push some pieces one after another.
use Rattle.std.proofs.lemmas.Grind.{common_steps}
use Rattle.std.proofs.Common.{◌≡◌, ◌∙◌, ℕ, List, [], ◌++◌, Option, Result, Ok, Err, sym, ap, append_assoc, arith, subst}
use Rattle.std.proofs.lemmas.Grind.{flat_map-append}
use Rattle.std.proofs.lemmas.Result.{err_from_is_err_and, on_ok_weaker, on_err_weaker}
use Rattle.std.specs.Result.{IsErrAnd}
use Rattle.ac_base.proofs.Leaving.{appends_both, leaves_none, leaves_start, part_none, part_of_first, part_of_second}
use Rattle.ac_report.specs.declared.fault.PageFault.{PageFault}
use Rattle.ac_report.specs.declared.fault.PageFault.TheVariants as fault
use Rattle.ac_report.specs.Outcomes.{Writes, WritesEach}
use Rattle.ac_report.specs.Pages.{TakesWhole}

-- a fault that is handed on stays the same
pub same_fault : {X E : Type 0} (r : Result X E) (e f : E) → IsErrAnd r (λ d. d ≡ e) → r ≡ Err f → e ≡ f
same_fault (Ok x) e f h stopped = absurd (cc)
same_fault (Err d) e f h stopped = cc

module _ {S X : Type 0} {taken : S → Option (List ℕ)} {fails : S → ℕ} {may : Type 0} where
  -- where no piece is left, all are written
  pub wrote_none : (piece : List ℕ → List ℕ) (xs : List (List ℕ)) (a : S) (x : X) → xs ≡ [] → WritesEach taken fails may a a (Ok x) piece xs
  wrote_none piece xs a x none = grind (arith, common_steps, leaves_none, leaves_start)

  -- where memory is wanting before the first piece, none is written
  pub refused : (text : List ℕ) (piece : List ℕ → List ℕ) (xs : List (List ℕ)) (a : S) (r : Result X PageFault) → IsErrAnd r (λ e. e ≡ fault.NoMemory)
      → Writes taken fails may a a r text piece xs
  refused text piece xs a r h = grind (arith, common_steps, err_from_is_err_and, part_none, leaves_none, leaves_start)

  -- so it is where the search stops there
  pub halted : (text : List ℕ) (piece : List ℕ → List ℕ) (xs : List (List ℕ)) (a : S) (r : Result X PageFault) → IsErrAnd r (λ e. e ≡ fault.TooManyTries) → may
      → Writes taken fails may a a r text piece xs
  halted text piece xs a r h stops = grind (arith, common_steps, err_from_is_err_and, part_none, leaves_none, leaves_start)

  -- what may stop so may stop
  pub may_weaker : {first_may : Type 0} {a b : S} {r : Result X PageFault} {text : List ℕ} {piece : List ℕ → List ℕ} {xs : List (List ℕ)} → (first_may → may)
      → Writes taken fails first_may a b r text piece xs → Writes taken fails may a b r text piece xs
  may_weaker so wrote = record {
    ok = wrote.ok;
    part = wrote.part;
    failed = wrote.failed;
    whole = wrote.whole;
    stopped = λ e. let w = wrote.stopped e in (so w.0, w.1);
    failures = wrote.failures;
  }

  -- what is told otherwise
  pub wrote_told : {a b : S} {r : Result X PageFault} {s t : List ℕ} {piece : List ℕ → List ℕ} {xs ys : List (List ℕ)} → s ≡ t → xs ≡ ys
      → Writes taken fails may a b r s piece xs → Writes taken fails may a b r t piece ys
  wrote_told {a = a} {b = b} {r = r} {t = t} {piece = piece} {xs = xs} said pieces wrote =
      subst (Writes taken fails may a b r t piece) pieces (subst (λ (u : List ℕ). Writes taken fails may a b r u piece xs) said wrote)

  module _ (piece : List ℕ → List ℕ) (xs : List (List ℕ)) {Z first_may : Type 0} {a b : S} where
    -- what is written of the first pieces and then of the others is written of all
    pub wrote_on : {z : Z} {r : Result X PageFault} {c : S} {ys : List (List ℕ)} → WritesEach taken fails first_may a b (Ok z) piece xs
        → WritesEach taken fails may b c r piece ys → WritesEach taken fails may a c r piece (xs ++ ys)
    wrote_on {r = r} {c = c} {ys = ys} first then = record {
      ok = on_ok_weaker r (λ t. rw flat_map-append (appends_both (taken a) (taken b) (taken c) _ _ first.ok t)) then.ok;
      part = on_err_weaker r (λ t. rw flat_map-append (part_of_second (taken a) (taken b) (taken c) _ _ first.ok t)) then.part;
      failed = λ e low. grind (arith, then.failed e, first.failures, then.failures);
      whole = λ e. behind (then.whole e);
      stopped = λ e. let w = then.stopped e in (w.0, behind w.1);
      failures = omega (arith, first.failures, then.failures);
    }
      where
        behind : TakesWhole piece ys (taken b) (taken c) → TakesWhole piece (xs ++ ys) (taken a) (taken c)
        behind w = (
          xs ++ w.0,
          w.1,
          ap (λ l. xs ++ l) w.2 ∙ sym (append_assoc xs w.0 w.1),
          rw flat_map-append (appends_both (taken a) (taken b) (taken c) _ _ first.ok w.3),
        )

    -- an error within the first pieces is one within all
    pub stopped : (ys : List (List ℕ)) {e : PageFault} {r : Result X PageFault} → WritesEach {X = Z} taken fails first_may a b (Err e) piece xs → (first_may → may) → IsErrAnd r (λ d. d ≡ e)
        → WritesEach taken fails may a b r piece (xs ++ ys)
    stopped ys {e = e} {r = r} first may_too h = grind (arith, common_steps, err_from_is_err_and, flat_map-append, part_of_first, append_assoc)
