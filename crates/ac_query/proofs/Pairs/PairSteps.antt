-- What the conditions of a pair come to.
use Rattle.std.proofs.lemmas.Grind.{common_steps}
use Rattle.std.proofs.Common.{◌≡◌, ℕ, Bool, true, false, List, [], ◌∷◌, ◌++◌, Option, Some, None, Result, IfErr, nat_lt, ◌<◌, ◌≤◌, arith, length, refl, ap, ◌∙◌, if◌then◌else◌}
use Rattle.std.proofs.lemmas.Bool.Decides.{nat_tests}
use Rattle.std.specs.Option.{option_or}
use Rattle.std.specs.Result.{IsErrAnd}
use Rattle.ac_query.specs.declared.version.Version.{Version}
use Rattle.ac_query.specs.Pairs.Parameters.{Parameter, parameter}
use Rattle.ac_query.specs.Pairs.Values.{Given, given_of, is_conflict}
use Rattle.ac_query.specs.Pairs.{pairs_of}
use Rattle.ac_query.specs.Faults.{Fault, too_long, repeated, bad_value, conflict, first_fault, is_repeat, pair_conditions, pairs_conditions, text_conditions}

module _ (version : Version) (n : ℕ) (earlier : List (List ℕ)) (p : List ℕ × List ℕ) (q : Parameter) (known : parameter p.0 ≡ Some q) where
  pub at_repeat : is_repeat version earlier p.0 q ≡ true → first_fault (pair_conditions version n earlier p) ≡ Some (repeated n)
  at_repeat again = rw (known, again) refl

  module _ (once : is_repeat version earlier p.0 q ≡ false) where
    pub at_bad_value : given_of version q p.1 ≡ None → first_fault (pair_conditions version n earlier p) ≡ Some (bad_value n)
    at_bad_value bad = rw (known, once, bad) refl

    module _ (v : Given) (good : given_of version q p.1 ≡ Some v) where
      pub at_conflict : is_conflict v ≡ true → first_fault (pair_conditions version n earlier p) ≡ Some (conflict n)
      at_conflict clash = rw (known, once, good, clash) refl

      pub at_fine : is_conflict v ≡ false → first_fault (pair_conditions version n earlier p) ≡ None
      at_fine clash = rw (known, once, good, clash) refl

-- an error that a `?` handed on as it was
pub err_is : {T E : Type 0} (r : Result T E) (P : E → Type 0) (x : E) → IsErrAnd r (λ e. e ≡ x) → P x → IfErr r P
err_is r P x is told = grind (arith, common_steps)

-- the first fault of two lists of conditions
pub first_fault-both : (a b : List (Bool × Fault)) → first_fault (a ++ b) ≡ option_or (first_fault a) (first_fault b)
first_fault-both [] b = refl
first_fault-both ((true, f) ∷ a) b = refl
first_fault-both ((false, f) ∷ a) b = first_fault-both a b

-- no fault of two lists is none of each
pub neither : (a b : List (Bool × Fault)) → first_fault (a ++ b) ≡ None → (first_fault a ≡ None) × (first_fault b ≡ None)
neither a b h = grind (arith, common_steps, first_fault-both)

pub first_fault-append : (a b : List (Bool × Fault)) → first_fault a ≡ None → first_fault (a ++ b) ≡ first_fault b
first_fault-append a b none = first_fault-both a b ∙ ap (λ o. option_or o (first_fault b)) none

pub first_fault-found : (a b : List (Bool × Fault)) (f : Fault) → first_fault a ≡ Some f → first_fault (a ++ b) ≡ Some f
first_fault-found a b f found = first_fault-both a b ∙ ap (λ o. option_or o (first_fault b)) found

-- the condition that is first doesn't hold
pub holds_not : (b : Bool) (f : Fault) (rest : Option Fault) → (if b then Some f else rest) ≡ None → (b ≡ false) × (rest ≡ None)
holds_not b f rest h = grind (arith, common_steps)

pub is_too_long : (version : Version) (query : List ℕ) → 65536 < length query → first_fault (text_conditions version query) ≡ Some too_long
is_too_long version query long = let h : nat_lt 65536 (length query) ≡ true = grind (arith, nat_tests) in rw h refl

pub pairs_decide : (version : Version) (query : List ℕ) → length query ≤ 65536 → first_fault (pairs_conditions version 1 [] (pairs_of query)) ≡ first_fault (text_conditions version query)
pairs_decide version query fits = let h : nat_lt 65536 (length query) ≡ false = grind (arith, nat_tests) in rw h refl
