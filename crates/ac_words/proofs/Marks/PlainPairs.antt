-- Each pair of a query that is accepted has a plain name, and a value that is shown.
use Rattle.std.proofs.Common.{◌≡◌, ℕ, ◌+◌, Bool, true, false, List, [], ◌∷◌, ◌++◌, length, nat_lt, is_none, Option, Some, None, IfSome}
use Rattle.std.specs.List.{AllByRecursion}
use Rattle.ac_query.specs.declared.version.Version.{Version}
use Rattle.ac_query.specs.Faults.{Fault, asked_conditions, conditions_of, first_fault, is_repeat, pair_conditions, pairs_conditions, query_fault, text_conditions, too_long}
use Rattle.ac_query.specs.Laws.Gathered.{asked_by}
use Rattle.ac_query.specs.Pairs.{pairs_of}
use Rattle.ac_query.specs.Pairs.Parameters.{Parameter, parameter}
use Rattle.ac_query.specs.Pairs.Values.{Given, given_of}
use Rattle.ac_query.proofs.Pairs.PairSteps.{neither}
use Rattle.ac_words.proofs.Marks.PlainNames.{is_plain, parameter_plain}
use Rattle.ac_words.proofs.Marks.Shown.{IsShown, ShowsSome}
use Rattle.ac_words.proofs.Marks.PlainValues.{value_shown}

pub record IsPlainPair (p : List ℕ × List ℕ) : Type 0 where
  pub name : is_plain p.0 ≡ true
  pub value : IsShown p.1

module _ (version : Version) (n : ℕ) (earlier : List (List ℕ)) (p : List ℕ × List ℕ) where
  plain_value : (again clash : Bool) (o : Option Given) → ShowsSome p.1 o → (f g h : Fault) → first_fault ((again, f) ∷ (is_none o, g) ∷ (clash, h) ∷ []) ≡ None → IsShown p.1
  plain_value true clash o shown f g h none = absurd (cc)
  plain_value false clash None shown f g h none = absurd (cc)
  plain_value false clash (Some v) shown f g h none = shown

  plain_pair : (o : Option Parameter) → IfSome o (λ q. is_plain p.0 ≡ true) → first_fault (conditions_of version n earlier p o) ≡ None → IsPlainPair p
  plain_pair None plain none = absurd (cc)
  plain_pair (Some q) plain none = record { name = plain; value = plain_value (is_repeat version earlier p.0 q) _ (given_of version q p.1) (value_shown version q p.1) _ _ _ none }

plain_pairs : (version : Version) (n : ℕ) (earlier : List (List ℕ)) (ps : List (List ℕ × List ℕ)) → first_fault (pairs_conditions version n earlier ps) ≡ None → AllByRecursion IsPlainPair ps
plain_pairs version n earlier [] none = tt
plain_pairs version n earlier (p ∷ ps) none =
    let both = neither (pair_conditions version n earlier p) (pairs_conditions version (n + 1) (earlier ++ p.0 ∷ []) ps) none in
    (plain_pair version n earlier p (parameter p.0) (parameter_plain p.0) both.0, plain_pairs version (n + 1) (earlier ++ p.0 ∷ []) ps both.1)

pub query_plain : (version : Version) (text : List ℕ) → query_fault version text ≡ None → AllByRecursion IsPlainPair (pairs_of text)
unfolding query_fault
query_plain version text none =
    let both = neither (text_conditions version text) (asked_conditions (asked_by version (pairs_of text))) none in
    plain_pairs version 1 [] (pairs_of text) (neither ((nat_lt 65536 (length text), too_long) ∷ []) (pairs_conditions version 1 [] (pairs_of text)) both.0).1
