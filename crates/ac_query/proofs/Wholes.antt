-- The faults of a text and of all that it asks, joined.
use Rattle.std.proofs.Common.{◌≡◌, ℕ, List, Some, None, sym, ap, subst, ◌∙◌}
use Rattle.ac_query.specs.declared.version.Version.{Version}
use Rattle.ac_query.specs.Pairs.{pairs_of}
use Rattle.ac_query.specs.Asked.{Asked}
use Rattle.ac_query.specs.Laws.Gathered.{Gathered, as_asked, gathered, asked_by}
use Rattle.ac_query.specs.Faults.{Fault, first_fault, text_conditions, asked_conditions, query_fault}
use Rattle.ac_query.specs.Asks.{Asks}
use Rattle.ac_query.proofs.Pairs.Asking.{asks_once}
use Rattle.ac_query.proofs.Pairs.PairSteps.{first_fault-append, first_fault-found, holds_not}

pub asked_is : (version : Version) (pairs : List (List ℕ × List ℕ)) (g : Gathered) → g ≡ gathered version pairs → as_asked g ≡ asked_by version pairs
unfolding asked_by
asked_is version pairs g is = ap as_asked is

module _ (version : Version) (query : List ℕ) where
  pub text_stops : (f : Fault) → first_fault (text_conditions version query) ≡ Some f → query_fault version query ≡ Some f
  unfolding query_fault
  text_stops f told = first_fault-found (text_conditions version query) _ f told

  module _ (fine : first_fault (text_conditions version query) ≡ None) where
    pub goes_on : (g : Gathered) → g ≡ gathered version (pairs_of query) → query_fault version query ≡ first_fault (asked_conditions (as_asked g))
    unfolding query_fault
    goes_on g is = first_fault-append (text_conditions version query) _ fine ∙ ap (λ a. first_fault (asked_conditions a)) (sym (asked_is version (pairs_of query) g is))

    -- what is asked is the record that the pairs ask for
    pub asks_record : (a : Asked) → a ≡ asked_by version (pairs_of query) → Asks version (pairs_of query) a
    asks_record a is = subst (Asks version (pairs_of query)) (sym is) (asks_once version (pairs_of query) (holds_not _ _ _ fine).1).0
