-- A page, list by list.
use Rattle.std.proofs.lemmas.Grind.{common_steps}
use Rattle.std.proofs.Common.{◌≡◌, ◌∙◌, ◌≤◌, ◌+◌, ◌-◌, ℕ, zero, suc, min, List, [], ◌∷◌, take, drop, length, Option, Some, None, Result, Ok, Err, refl, sym, ap, append-nil, take-append-drop, arith}
use Rattle.std.specs.List.{All}
use Rattle.std.specs.Result.{IsErrAnd}
use Rattle.std.proofs.lemmas.Result.{IfOk-weaker, err_from_is_err_and, on_err_weaker, on_ok_weaker}
use Rattle.ac_rules.specs.Lists.{head_of, left_behind, tail_of}
use Rattle.ac_rules.specs.Pages.{cut}
use Rattle.ac_report.specs.declared.fault.PageFault.{PageFault}
use Rattle.ac_report.specs.Outcomes.{Reads, one_less}
use Rattle.ac_report.specs.Pages.{IsWithin, LosesSome, behind}

abbrev Lists : Type 0
Lists = List (List ℕ)

-- what holds of all lists holds of the first, and of those behind it
pub all_head : (P : List ℕ → Type 0) (ls : Lists) (x : List ℕ) → Some x ≡ head_of ls → All P ls → P x
all_head P ls x e h = grind (arith, common_steps)

pub all_tail : (P : List ℕ → Type 0) (ls : Lists) → All P ls → All P (tail_of ls)
all_tail P [] h = h
all_tail P (y ∷ ls) h = λ k d lt. h (suc k) d (omega arith)

-- what a source has left behind the list that it gave, and where it stopped; the answer is told by what `?` makes of it
pub tail_given : {E F X : Type 0} (of : F → Result X E) (old : Lists) {r : Result X E} {flow step : F} {x : X} {new : Lists} → r ≡ of flow → flow ≡ step → of step ≡ Ok x → new ≡ left_behind r old → new ≡ tail_of old
tail_given of old is went gave left = left ∙ ap (λ r. left_behind r old) (is ∙ (ap of went ∙ gave))

pub same_stopped : {E F X : Type 0} (of : F → Result X E) (old : Lists) {r : Result X E} {flow step : F} {e : E} {new : Lists} → r ≡ of flow → flow ≡ step → of step ≡ Err e → new ≡ left_behind r old → new ≡ old
same_stopped of old is broke stopped left = left ∙ ap (λ r. left_behind r old) (is ∙ (ap of broke ∙ stopped))

take_short : (n : ℕ) (xs : Lists) → length (take n xs) ≤ n
take_short zero xs = omega arith
take_short (suc n) [] = omega arith
take_short (suc n) (x ∷ xs) = omega (arith, take_short n xs)

pub loses_page : (limit : Option ℕ) (old : Lists) → LosesSome limit old (behind limit old)
loses_page None old = (old, sym (append-nil old), tt)
loses_page (Some n) old = (take n old, sym (take-append-drop n old), take_short n old)

-- all lists of a page are read before an error
pub read_all : (limit : Option ℕ) (from : ℕ) (old new : Lists) (r : Result ℕ PageFault) (Q : PageFault → Type 0) → IsErrAnd r Q → new ≡ behind limit old → Reads limit from r old new
read_all limit from old new r Q h all = let e = err_from_is_err_and r h in rw (e.1, all) record { left = tt; count = tt; gone = loses_page limit old }

-- one list of those that are wanted
pub record IsNext (limit : Option ℕ) (old : Lists) (x : List ℕ) : Type 0 where
  pub first : old ≡ x ∷ tail_of old
  pub cut_next : cut limit old ≡ x ∷ cut (one_less limit) (tail_of old)
  pub behind_next : behind limit old ≡ behind (one_less limit) (tail_of old)
  pub within : (k : ℕ) → IsWithin k (one_less limit) → IsWithin (suc k) limit

pub is_next : (limit : Option ℕ) (old : Lists) (x : List ℕ) → (limit ≡ Some 0 → ⊥) → Some x ≡ head_of old → IsNext limit old x
is_next limit [] x more head = absurd (cc)
is_next None (y ∷ ls) x more head = let s : y ≡ x = cc in record { first = ap (λ z. z ∷ ls) s; cut_next = ap (λ z. z ∷ ls) s; behind_next = refl; within = λ k h. tt }
is_next (Some n) (y ∷ ls) x more head =
    let s : y ≡ x = cc in
    let some : n ≡ 0 → ⊥ = λ e. more (ap Some e) in
    let m : n ≡ suc (n - 1) = omega (arith, some) in
    record {
      first = ap (λ z. z ∷ ls) s;
      cut_next = ap (λ k. take k (y ∷ ls)) m ∙ ap (λ z. z ∷ take (n - 1) ls) s;
      behind_next = ap (λ k. drop k (y ∷ ls)) m;
      within = λ k h. omega (arith, h, m);
    }

module _ (limit : Option ℕ) (from : ℕ) (old mid : Lists) (x : List ℕ) (is : IsNext limit old x) (tail : mid ≡ tail_of old) (r : Result ℕ PageFault) where
  -- it is read, and then others are
  pub read_on : (new : Lists) → Reads (one_less limit) (min (from + 1) 4294967295) r mid new → Reads limit from r old new
  read_on new h = record {
    left = on_ok_weaker r (λ e. e ∙ ap (behind (one_less limit)) tail ∙ sym is.behind_next) h.left;
    count = IfOk-weaker r _ _ (λ n e. let longer = ap length is.cut_next in let same = ap (λ ls. length (cut (one_less limit) ls)) tail in omega (arith, e, longer, same)) h.count;
    gone = on_err_weaker r (λ g. (x ∷ g.0, is.first ∙ ap (λ ls. x ∷ ls) (sym tail ∙ g.1), is.within (length g.0) g.2)) h.gone;
  }

  -- it is the last one before an error
  pub read_last : (Q : PageFault → Type 0) → IsErrAnd r Q → Reads limit from r old mid
  read_last Q h = let e = err_from_is_err_and r h in rw e.1 record { left = tt; count = tt; gone = (x ∷ [], is.first ∙ ap (λ ls. x ∷ ls) (sym tail), is.within 0 (none limit)) }
    where
      none : (limit : Option ℕ) → IsWithin 0 (one_less limit)
      none limit = grind (arith, common_steps)

-- none is read where the source stops
pub read_stopped : (limit : Option ℕ) (from : ℕ) (old new : Lists) (r : Result ℕ PageFault) (Q : PageFault → Type 0) → IsErrAnd r Q → new ≡ old → Reads limit from r old new
read_stopped limit from old new r Q h same = let e = err_from_is_err_and r h in rw (e.1, same) record { left = tt; count = tt; gone = ([], refl, none limit) }
  where
    none : (limit : Option ℕ) → IsWithin 0 limit
    none None = tt
    none (Some n) = omega arith

-- no list is left, or none is wanted
module _ (limit : Option ℕ) (old : Lists) where
  pub cut_end : None ≡ head_of old → cut limit old ≡ []
  cut_end end = grind (arith, common_steps)

  pub cut_over : limit ≡ Some 0 → cut limit old ≡ []
  cut_over over = rw over refl

  pub read_end : (from : ℕ) (new : Lists) → None ≡ head_of old → new ≡ tail_of old → from ≤ 4294967295 → Reads limit from (Ok from) old new
  read_end from new end tail small = record { left = rw tail (of limit old end); count = let l = ap length (cut_end end) in omega (arith, l, small); gone = tt }
    where
      of : (limit : Option ℕ) (old : Lists) → None ≡ head_of old → tail_of old ≡ behind limit old
      of limit old end = grind (arith, common_steps)

  pub read_over : (from : ℕ) → limit ≡ Some 0 → from ≤ 4294967295 → Reads limit from (Ok from) old old
  read_over from over small = rw over record { left = refl; count = omega (arith, small); gone = tt }
