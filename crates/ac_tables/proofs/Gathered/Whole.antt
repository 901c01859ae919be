-- The records of a text, one read after the other: what a read takes, and what it leaves.
use Rattle.ac_tables.proofs.Common.{◌≡◌, ◌<◌, ◌≤◌, ◌==◌, ℕ, Bool, true, false, List, [], ◌∷◌, length, Option, Some, refl, arith, inl, inr, if◌then◌else◌, ◌&&◌, cases_Bool, Read, ends_at_end, State}
use Rattle.csv.specs.Machine.{after_end, ends_with, field_after, fields_after, in_field, is_byte, is_end, next_record, start_field, start_record, step}
use Rattle.csv.specs.declared.parser.Config.{Config}
use Rattle.csv.specs.declared.parser.Terminator.{Terminator}
use Rattle.csv.specs.declared.parser.Action.{Action}
use Rattle.csv.specs.declared.parser.Terminator.TheVariants as term
use Rattle.csv.specs.declared.parser.State.TheVariants as st
use Rattle.csv.specs.declared.parser.Action.TheVariants as act

-- a step that ends a record leaves a state between two records
abbrev EndsBetween : State × Action → Type 0
EndsBetween p = is_end p.1 ≡ true → ends_at_end p.0 ≡ false

either : (b : Bool) (p q : State × Action) → EndsBetween p → EndsBetween q → EndsBetween (if b then p else q)
either true p q x y = x
either false p q x y = y

after-end : (t : Terminator) (c : ℕ) → ends_at_end (after_end t c) ≡ false
after-end term.CRLF c = elim (cases_Bool (c == 13)) [ inl e ↦ rw e refl | inr e ↦ rw e refl ]
after-end (term.Any t) c = refl

in-field : (cfg : Config) (c : ℕ) → EndsBetween (in_field cfg c)
in-field cfg c = grind (arith, after-end, either)

start-field : (cfg : Config) (c : ℕ) → EndsBetween (start_field cfg c)
start-field cfg c = either (cfg.quoting && (c == cfg.quote)) (st.InQuoted, act.Skip) (in_field cfg c) (λ h. absurd (cc h)) (in-field cfg c)

start-record : (cfg : Config) (c : ℕ) → EndsBetween (start_record cfg c)
start-record cfg c = either (ends_with cfg.terminator c) _ _ (λ h. absurd (cc h)) (either (is_byte cfg.comment c) _ _ (λ h. absurd (cc h)) (start-field cfg c))

pub step-end : (cfg : Config) (s : State) (c : ℕ) → EndsBetween (step cfg s c)
step-end cfg st.StartRecord c = start-record cfg c
step-end cfg st.StartField c = start-field cfg c
step-end cfg st.InField c = in-field cfg c
step-end cfg st.InQuoted c = grind (arith, either)
step-end cfg st.InEscape c = λ h. absurd (cc h)
step-end cfg st.AfterQuote c = either (cfg.quoting && cfg.double_quote && (c == cfg.quote)) (st.InQuoted, act.Copy) (in_field cfg c) (λ h. absurd (cc h)) (in-field cfg c)
step-end cfg st.InComment c = either (c == 10) (st.StartRecord, act.Skip) (st.InComment, act.Skip) (λ h. absurd (cc h)) (λ h. absurd (cc h))
step-end cfg st.AfterCr c = either (c == 10) (st.StartRecord, act.Skip) (start_record cfg c) (λ h. absurd (cc h)) (start-record cfg c)

-- what a read leaves: a state between two records, and no more text than there was
abbrev Leaves : List ℕ → Read → Type 0
Leaves xs p = (ends_at_end p.1 ≡ false) × (length p.2 ≤ length xs)

the-read : (o : Read) (p : Read) (P : Read → Type 0) → ◌≡◌ {A = Option Read} (Some o) (Some p) → P o → P p
the-read o p P e h = grind (arith)

pub next-leaves : (cfg : Config) (s : State) (fields : List (List ℕ)) (field xs : List ℕ) (p : Read) → next_record cfg s fields field xs ≡ Some p → Leaves xs p
unfolding next_record
next-leaves cfg s fields field [] p e = grind (arith, cases_Bool, the-read)
next-leaves cfg s fields field (c ∷ rest) p e = elim (cases_Bool (is_end (step cfg s c).1)) [
  | inl t ↦ the-read _ p (Leaves (c ∷ rest)) (rw t at e) (step-end cfg s c t, omega arith)
  | inr t ↦ let (state, less) = next-leaves cfg (step cfg s c).0 (fields_after (step cfg s c).1 fields field) (field_after (step cfg s c).1 c field) rest p (rw t at e) in (state, omega arith)
]

-- a read that starts between two records takes a byte at least
pub next-takes : (cfg : Config) (s : State) (xs : List ℕ) (p : Read) → ends_at_end s ≡ false → next_record cfg s [] [] xs ≡ Some p → length p.2 < length xs
unfolding next_record
next-takes cfg s [] p b e = absurd (cc (rw b at e))
next-takes cfg s (c ∷ rest) p b e = elim (cases_Bool (is_end (step cfg s c).1)) [
  | inl t ↦ the-read _ p (λ p. length p.2 < length (c ∷ rest)) (rw t at e) (omega arith)
  | inr t ↦ let (state, less) = next-leaves cfg (step cfg s c).0 (fields_after (step cfg s c).1 [] []) (field_after (step cfg s c).1 c []) rest p (rw t at e) in omega arith
]
