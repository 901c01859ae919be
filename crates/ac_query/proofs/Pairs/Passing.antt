-- One turn of the pass over the pairs.
use Rattle.std.proofs.Common.{arith}
use Rattle.std.proofs.lemmas.Grind.{common_steps}
use Rattle.std.proofs.Common.{◌≡◌, ℕ, ◌+◌, List, ◌∷◌, map, Option, Some, None, sym, ap, ap₂, ◌∙◌, IfSome}
use Rattle.std.specs.List.{fold}
use Rattle.std.specs.BTreeSet.{insert_key}
use Rattle.ac_base.specs.Texts.{text_cmp}
use Rattle.ac_query.specs.declared.version.Version.{Version}
use Rattle.ac_query.specs.Pairs.Values.{Given}
use Rattle.ac_query.specs.Pairs.{read_pair, given, pair_text, text_of}
use Rattle.ac_query.specs.Laws.Gathered.{Gathered, with_given}
use Rattle.ac_query.proofs.Pairs.Earlier.{earlier_set}
use Rattle.ac_query.specs.Faults.{Fault, first_fault, pair_conditions, pairs_conditions}
use Rattle.ac_query.proofs.Pairs.PairSteps.{first_fault-append, first_fault-found}

-- what is left begins with a pair that decodes to p
module _ (version : Version) (left rest : List (List ℕ × List ℕ)) (name value : List ℕ) (turn : left ≡ (name, value) ∷ rest)
    (p : List ℕ × List ℕ) (name_is : p.0 ≡ text_of name) (value_is : p.1 ≡ text_of value) where
  opened : map pair_text left ≡ p ∷ map pair_text rest
  opened = ap (map pair_text) turn ∙ ap₂ (λ a b. (a, b) ∷ map pair_text rest) (sym name_is) (sym value_is)

  module _ (n : ℕ) (earlier : List (List ℕ)) (whole : Option Fault) (holds : first_fault (pairs_conditions version n earlier (map pair_text left)) ≡ whole) where
    pub pass_goes_on : (more : List (List ℕ)) → first_fault (pair_conditions version n earlier p) ≡ None → more ≡ insert_key text_cmp earlier p.0
        → first_fault (pairs_conditions version (n + 1) more (map pair_text rest)) ≡ whole
    pass_goes_on more fine added = grind (arith, common_steps, earlier_set, first_fault-append, opened)

    pub pass_stops : (o : Option Fault) → IfSome o (λ f. first_fault (pair_conditions version n earlier p) ≡ Some f) → IfSome o (λ f. whole ≡ Some f)
    pass_stops None told = tt
    pass_stops (Some f) told =
        sym holds ∙ ap (λ l. first_fault (pairs_conditions version n earlier l)) opened ∙ first_fault-found (pair_conditions version n earlier p) _ f told

  pub adds_on : (have more whole : Gathered) (g : Given) → fold with_given have (given version (map pair_text left)) ≡ whole → read_pair version p ≡ Some g → more ≡ with_given have g
      → fold with_given more (given version (map pair_text rest)) ≡ whole
  adds_on have more whole g holds is added = grind (arith, common_steps, opened)
