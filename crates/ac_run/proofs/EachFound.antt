-- What is found of things, one after another.
use Rattle.std.proofs.Common.{◌≡◌, ◌∙◌, ◌∷◌, ◌++◌, ℕ, List, [], Result, Ok, Err, refl, sym, ap, append_assoc, append-nil}
use Rattle.ac_report.specs.declared.called.NameFault.{NameFault}
use Rattle.ac_run.specs.Wanted.Named.{TellsName, TellsPair, each_found, mapped}
use Rattle.ac_run.specs.declared.wanted.named.LookupFault.{LookupFault}
use Rattle.ac_run.specs.declared.wanted.named.LookupFault.TheVariants as lookup
use Rattle.ac_run.specs.declared.wanted.named.query.PairFault.{PairFault}
use Rattle.ac_run.specs.declared.wanted.named.query.PairFault.TheVariants as pair

module _ {T X E : Type 0} (find : T → Result X E) where
  -- what was found, and what of the rest is
  abbrev pub found_behind : List X → List T → Result (List X) E
  found_behind have left = mapped (λ rest. have ++ rest) (each_found find left)

  mapped_same : (found : Result (List X) E) → mapped (λ rest. rest) found ≡ found
  mapped_same (Ok rest) = refl
  mapped_same (Err e) = refl

  pub nothing_yet : (left : List T) → found_behind [] left ≡ each_found find left
  nothing_yet left = mapped_same (each_found find left)

  pub all_found : (have : List X) → found_behind have [] ≡ Ok have
  all_found have = ap Ok (append-nil have)

  one_more : (have : List X) (x : X) (rest : Result (List X) E) → mapped (λ r. (have ++ x ∷ []) ++ r) rest ≡ mapped (λ r. have ++ r) (mapped (λ xs. x ∷ xs) rest)
  one_more have x (Ok rest) = ap Ok (append_assoc have (x ∷ []) rest)
  one_more have x (Err e) = refl

  module _ (have : List X) (left rest : List T) (t : T) (whole : Result (List X) E) (turn : left ≡ t ∷ rest) (holds : found_behind have left ≡ whole) where
    pub has_found : (more : List X) (x : X) → find t ≡ Ok x → more ≡ have ++ x ∷ [] → found_behind more rest ≡ whole
    has_found more x is added = rw added (one_more have x (each_found find rest) ∙ sym (ap (found_behind have) turn ∙ rw is refl)) ∙ holds

    pub has_fault : (e : E) → find t ≡ Err e → whole ≡ Err e
    has_fault e is = sym holds ∙ ap (found_behind have) turn ∙ rw is refl

-- what is told of the first fault is told of all
pub tells_all : {T X : Type 0} (find : T → Result X (ℕ × NameFault)) (have : List X) (left rest : List T) (t : T) (whole : Result (List X) (ℕ × NameFault)) (e : PairFault)
    → left ≡ t ∷ rest → found_behind find have left ≡ whole → TellsPair (find t) e → TellsPair whole e
tells_all find have left rest t whole (pair.Name n f) turn holds is = has_fault find have left rest t whole turn holds (n, f) is
tells_all find have left rest t whole pair.NoMemory turn holds is = tt

-- a fault stays one
pub tells_mapped : {X Y : Type 0} (f : X → Y) (found : Result X NameFault) (e : LookupFault) → TellsName found e → TellsName (mapped f found) e
tells_mapped f found (lookup.Name fault) h = rw h refl
tells_mapped f found lookup.NoMemory h = tt

pub pair_mapped : {X Y : Type 0} (f : X → Y) (found : Result X (ℕ × NameFault)) (e : PairFault) → TellsPair found e → TellsPair (mapped f found) e
pair_mapped f found (pair.Name n fault) h = rw h refl
pair_mapped f found pair.NoMemory h = tt
