-- Reading one record takes the first of the records that are left.
use Rattle.ac_tables.proofs.Common.{◌≤◌, ◌≡◌, ◌<◌, ◌+◌, ◌∙◌, ℕ, zero, suc, Bool, true, false, List, [], ◌∷◌, length, Option, Some, None, Bor, refl, ap, subst, arith, ◌⊎◌, inl, inr, Read, ends_at_end, Result, Ok, Err, result_ok, cases_Bool, State, rows_left, records_of, IsReading}
use Rattle.csv.specs.Machine.{next_record}
use Rattle.std.proofs.Common.{IfOk, OnOk, ok_or}
use Rattle.ac_base.specs.declared.name.NoMemory.{NoMemory}
use Rattle.csv.specs.declared.error.Error.{Error}
use Rattle.csv.specs.Reading.{is_bom, Ready, Reached, ReadRecord, default_config, records_from, strip_bom}
use Rattle.csv.specs.declared.reader.Reader.{Reader}
use Rattle.csv.proofs.ReadFacts.{rows-end, rows-more}
use Rattle.ac_tables.specs.Tables.Rows.{rows_from, Gives}
use Rattle.csv.specs.declared.reader.Trim.TheVariants as trim
use Rattle.csv.specs.declared.parser.State.TheVariants as st
use Rattle.ac_tables.proofs.Gathered.Whole.{next-leaves, next-takes}

-- the next record, or that there is none
next-cases : (o : Option Read) → (o ≡ None) ⊎ ((p : Read) × (o ≡ Some p))
next-cases None = inl refl
next-cases (Some p) = inr (p, refl)

-- any bound past the length gives the same records
enough : (n m : ℕ) (s : State) (xs : List ℕ) → ends_at_end s ≡ false → length xs < n → length xs < m → records_from default_config n s xs ≡ records_from default_config m s xs
unfolding records_from
enough zero m s xs b h k = absurd (omega arith)
enough (suc n) zero s xs b h k = absurd (omega arith)
enough (suc n) (suc m) s xs b h k = elim (next-cases (next_record default_config s [] [] xs)) [
  | inl e ↦ rw e refl
  | inr r ↦
      let less : length r.0.2 < length xs = next-takes default_config s xs r.0 b r.1 in
      let stays : ends_at_end r.0.1 ≡ false = (next-leaves default_config s [] [] xs r.0 r.1).0 in
      let rest = enough n m r.0.1 r.0.2 stays (omega arith) (omega arith) in
      rw (r.1, rest) refl
]

-- a next record is the first of those that are left
pub rows_more : (s : State) (xs : List ℕ) (p : Read) → ends_at_end s ≡ false → next_record default_config s [] [] xs ≡ Some p → rows_from s (Some xs) ≡ p.0 ∷ rows_from p.1 (Some p.2)
unfolding rows_from records_from
rows_more s xs p b e = grind (arith, enough, next-leaves, next-takes)

-- where there is no next record, none is left
pub rows_none : (s : State) (xs : List ℕ) → next_record default_config s [] [] xs ≡ None → rows_from s (Some xs) ≡ []
unfolding rows_from records_from
rows_none s xs e = grind (arith)

-- at the start all records are left
pub rows_start : (bytes : List ℕ) → rows_from st.StartRecord (Some (strip_bom bytes)) ≡ records_of bytes
unfolding rows_from
rows_start bytes = refl

-- a read of a record, as a step of what is left
abbrev Step : Reader (Bor (List ℕ)) → Reader (Bor (List ℕ)) → Bool → List (List ℕ) → Type 0
Step a b found f = ReadRecord (λ s. Some s.now) a b found f

reached_one : (a : Reader (Bor (List ℕ))) (b : Reader (Bor (List ℕ))) (f : List (List ℕ)) (y z : List ℕ) → Reached default_config a.state y (f ∷ []) b.state z
    → (p : Read) × (next_record default_config a.state [] [] y ≡ Some p) × (f ≡ p.0) × (p.1 ≡ b.state) × (p.2 ≡ z)
unfolding Reached
reached_one a b f y z h = (h.0, h.1, h.2, h.3.0, h.3.1)

reached_none : (s : State) (y : List ℕ) → Reached default_config s y [] s y
unfolding Reached
reached_none s y = (refl, refl)

same_rest : (f g : List (List ℕ)) (s t : State) (x z : List ℕ) (o : Option (List ℕ)) → f ≡ g → s ≡ t → x ≡ z → o ≡ Some z → g ∷ rows_from s (Some x) ≡ f ∷ rows_from t o
same_rest f g s t x z o e1 e2 e3 e4 = rw (e1, e2, e3, e4) refl

gives_row : (a b : Reader (Bor (List ℕ))) (f : List (List ℕ)) → IsReading a → Step a b true f → rows_left a ≡ f ∷ rows_left b
gives_row a b f reading step = grind (arith, reached_none, reached_one, rows-more, rows_more, same_rest)

gives_none : (a b : Reader (Bor (List ℕ))) (f : List (List ℕ)) → IsReading a → Step a b false f → rows_left a ≡ []
gives_none a b f reading step = grind (arith, rows-end, rows_none)

still_reading : (a b : Reader (Bor (List ℕ))) (f : List (List ℕ)) → IsReading a → Step a b true f → b.first ≡ true → IsReading b
still_reading a b f reading step first =
    let y = reading.source.0 in
    let m = rows-more (λ (s : Bor (List ℕ)). Some s.now) a b f default_config a.state y y [] reading.config reading.source.1 (reached_none a.state y) step in
    let (p, e, same, state, rest) = reached_one a b f y m.0 m.2 in
    record {
      trim = step.3 ∙ reading.trim;
      ready = inl first;
      config = step.2 ∙ reading.config;
      between = subst (λ (s : State). ends_at_end s ≡ false) state (next-leaves default_config a.state [] [] y p e).0;
      source = (m.0, m.1);
    }

gives : (a b : Reader (Bor (List ℕ))) (f : List (List ℕ)) (found : Bool) → IsReading a → Step a b found f → Gives (rows_left a) found f (rows_left b)
gives a b f true reading step = gives_row a b f reading step
gives a b f false reading step = gives_none a b f reading step

-- the clauses of a function that reads one record
pub gives_clause : (a b : Reader (Bor (List ℕ))) (f : List (List ℕ)) (r : Result Bool Error) (none : NoMemory) → IsReading a
    → IfOk r (λ found. a.trim ≡ trim.None → Ready a → Step a b found f) → IfOk (ok_or (result_ok r) none) (λ found. Gives (rows_left a) found f (rows_left b))
gives_clause a b f (Ok found) none reading step = gives a b f found reading (step reading.trim reading.ready)
gives_clause a b f (Err e) none reading step = tt

goes_clause : (a b : Reader (Bor (List ℕ))) (f : List (List ℕ)) (found : Bool) → IsReading a → Step a b found f → b.first ≡ true → found ≡ true → IsReading b
goes_clause a b f true reading step first e = still_reading a b f reading step first
goes_clause a b f false reading step first e = absurd (cc)

pub goes_on_clause : (a b : Reader (Bor (List ℕ))) (f : List (List ℕ)) (r : Result Bool Error) (none : NoMemory) → IsReading a
    → IfOk r (λ found. a.trim ≡ trim.None → Ready a → Step a b found f) → (a.trim ≡ trim.None → OnOk r (b.first ≡ true))
    → IfOk (ok_or (result_ok r) none) (λ found. found ≡ true → IsReading b)
goes_on_clause a b f (Ok found) none reading step first = goes_clause a b f found reading (step reading.trim reading.ready) (first reading.trim)
goes_on_clause a b f (Err e) none reading step first = tt

records-few : (n : ℕ) (s : State) (xs : List ℕ) → length (records_from default_config n s xs) ≤ n
unfolding records_from
records-few zero s xs = omega arith
records-few (suc n) s xs = elim (next-cases (next_record default_config s [] [] xs)) [
  | inl e ↦ rw e (omega arith)
  | inr r ↦ let less = records-few n r.0.1 r.0.2 in rw r.1 (omega arith)
]

bom-shorter : (xs : List ℕ) → length (strip_bom xs) ≤ length xs
unfolding strip_bom
bom-shorter [] = omega arith
bom-shorter (a ∷ []) = omega arith
bom-shorter (a ∷ b ∷ []) = omega arith
bom-shorter (a ∷ b ∷ c ∷ rest) = elim (cases_Bool (is_bom a b c)) [ inl e ↦ rw e (omega arith) | inr e ↦ rw e (omega arith) ]

-- a text has no more records after the first than bytes
pub rest_few : (bytes : List ℕ) (row : List (List ℕ)) (rest : List (List (List ℕ))) → records_of bytes ≡ row ∷ rest → length rest ≤ length bytes
rest_few bytes row rest e =
    let some = records-few (length (strip_bom bytes) + 1) st.StartRecord (strip_bom bytes) in
    let count : length (records_of bytes) ≡ length rest + 1 = ap length e ∙ omega arith in
    omega (arith, bom-shorter bytes)
