-- The lines of a text, read one by one.
use Rattle.ac_change.proofs.Common.{◌≡◌, ◌<◌, ◌≤◌, ◌+◌, ◌∙◌, ◌∷◌, ◌++◌, ℕ, List, [], Option, Some, None, drop, drop-cons, length, get_or, ap, ap₂, sym, subst, suc, arith, append-nil, append_assoc}
use Rattle.std.specs.Option.{option_or}
use Rattle.std.proofs.Math.ListN.{drop_of_length-le}
use Rattle.ac_change.specs.Changes.{Change}
use Rattle.ac_change.specs.Faults.{TellsLine}
use Rattle.ac_change.specs.Lines.{Text, fault_at, fault_from, said_at, said_from, words_of}
use Rattle.ac_change.specs.declared.fault.ChangeFault.{ChangeFault}
use Rattle.ac_change.specs.declared.fault.ChangeFault.TheVariants as fault
use Rattle.ac_change.specs.declared.fault.ChangeKind.{ChangeKind}

module _ (texts : List Text) (ix : ℕ) (line : Text) (inside : ix < length texts) (here : line ≡ get_or texts ix []) where
  rest : drop ix texts ≡ line ∷ drop (ix + 1) texts
  rest =
      let next : suc ix ≡ ix + 1 = omega arith in
      drop-cons texts ix [] inside ∙ ap₂ (λ (l : Text) (n : ℕ). l ∷ drop n texts) (sym here) next

  said_here : said_from (ix + 1) (drop ix texts) ≡ said_at (ix + 1) (words_of line) ++ said_from (ix + 1 + 1) (drop (ix + 1) texts)
  unfolding said_from
  said_here = ap (said_from (ix + 1)) rest

  bad_here : fault_from (ix + 1) (drop ix texts) ≡ option_or (fault_at (ix + 1) (words_of line)) (fault_from (ix + 1 + 1) (drop (ix + 1) texts))
  unfolding fault_from
  bad_here = ap (fault_from (ix + 1)) rest

  -- what is said goes on behind a line
  pub said_goes : (old read new all : List (ℕ × Change)) → new ≡ old ++ read → read ≡ said_at (ix + 1) (words_of line) → old ++ said_from (ix + 1) (drop ix texts) ≡ all
      → new ++ said_from (ix + 1 + 1) (drop (ix + 1) texts) ≡ all
  said_goes old read new all is reads was =
      ap (λ l. l ++ said_from (ix + 1 + 1) (drop (ix + 1) texts)) (is ∙ ap (λ l. old ++ l) reads)
      ∙ append_assoc old (said_at (ix + 1) (words_of line)) (said_from (ix + 1 + 1) (drop (ix + 1) texts)) ∙ ap (λ l. old ++ l) (sym said_here) ∙ was

  -- the first fault is behind a line without one
  pub bad_goes : (all : Option (ℕ × ChangeKind)) → fault_at (ix + 1) (words_of line) ≡ None → fault_from (ix + 1) (drop ix texts) ≡ all → fault_from (ix + 1 + 1) (drop (ix + 1) texts) ≡ all
  bad_goes all fine was = sym (bad_here ∙ ap (λ o. option_or o (fault_from (ix + 1 + 1) (drop (ix + 1) texts))) fine) ∙ was

  tells_first : (first other : Option (ℕ × ChangeKind)) (e : ChangeFault) → TellsLine first e → TellsLine (option_or first other) e
  tells_first None other (fault.At number why) h = absurd (cc)
  tells_first (Some found) other (fault.At number why) h = h
  tells_first first other fault.NoMemory h = tt

  -- it is that of a line that has one
  pub bad_tells : (all : Option (ℕ × ChangeKind)) (e : ChangeFault) → TellsLine (fault_at (ix + 1) (words_of line)) e → fault_from (ix + 1) (drop ix texts) ≡ all → TellsLine all e
  bad_tells all e tells was = subst (λ first. TellsLine first e) (sym bad_here ∙ was) (tells_first (fault_at (ix + 1) (words_of line)) (fault_from (ix + 1 + 1) (drop (ix + 1) texts)) e tells)

-- behind all lines nothing is said
pub said_ends : (texts : List Text) (ix : ℕ) (old all : List (ℕ × Change)) → length texts ≤ ix → old ++ said_from (ix + 1) (drop ix texts) ≡ all → old ≡ all
unfolding said_from
said_ends texts ix old all past was = sym (append-nil old) ∙ ap (λ l. old ++ said_from (ix + 1) l) (sym (drop_of_length-le texts past)) ∙ was

pub bad_ends : (texts : List Text) (ix : ℕ) (all : Option (ℕ × ChangeKind)) → length texts ≤ ix → fault_from (ix + 1) (drop ix texts) ≡ all → all ≡ None
unfolding fault_from
bad_ends texts ix all past was = sym was ∙ ap (fault_from (ix + 1)) (drop_of_length-le texts past)
