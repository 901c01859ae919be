-- What stands in a sink of what was gathered above it.
use Rattle.std.proofs.Common.{◌≡◌, ◌∙◌, ℕ, ◌<◌, ◌≤◌, List, [], ◌++◌, Option, Some, None, sym, ap, subst, append-nil, append_assoc, arith, inl, inr}
use Rattle.std.proofs.lemmas.Bool.{cases_Bool}
use Rattle.std.proofs.lemmas.Bool.Decides.{nat_tests}
use Rattle.std.specs.Prelude.{IfOk, Result, Ok, Err, OnOk, OnErr, nat_lt}
use Rattle.std.specs.Io.KnownBytes.{Appends, Keeps, append_known}
use Rattle.ac_base.specs.Devices.{Rises, TakesPart, last_count}
use Rattle.ac_base.specs.Gathered.{IsFirstPart}

pub from_ok : {T E : Type 0} (r : Result T E) (x : T) (P : Type 0) → r ≡ Ok x → OnOk r P → P
from_ok (Ok y) x P e h = h
from_ok (Err y) x P e h = absurd (cc)

pub of_ok : {T E : Type 0} (r : Result T E) (x : T) (P : T → Type 0) → r ≡ Ok x → IfOk r P → P x
of_ok (Ok y) x P e h = subst P (cc) h
of_ok (Err y) x P e h = absurd (cc)

pub from_err : {T E : Type 0} (r : Result T E) (x : E) (P : Type 0) → r ≡ Err x → OnErr r P → P
from_err (Ok y) x P e h = absurd (cc)
from_err (Err y) x P e h = h

-- ---- counts

pub same_rise : (a b c d : ℕ) → b ≡ a → c ≡ d → Rises b c → Rises a d
same_rise a b c d e f h = subst (λ k. Rises k d) e (subst (λ k. Rises b k) f h)

pub later_rise : (a b c : ℕ) → a ≤ b → b ≤ c → Rises b c → Rises a c
later_rise a b c p q h = λ below. elim (cases_Bool (nat_lt b last_count)) [
  | inl t ↦ let fits : b < last_count = grind (arith, nat_tests) in omega (arith, h fits)
  | inr t ↦ let last : last_count ≤ b = grind (arith, nat_tests) in omega arith
]

-- ---- bytes: of the sink, of what gathers above it at first and at last, and of the sink at last

-- nothing was added
pub nothing_added : (a : Option (List ℕ)) → Appends a a []
nothing_added None = tt
nothing_added (Some u) = sym (append-nil u)

-- a part of a text was added
pub part_more : (a b c d : Option (List ℕ)) (text : List ℕ) → Keeps a b → TakesPart b c text → IsFirstPart c d → IsFirstPart (append_known a text) d
part_more None b c d text h k part = tt
part_more (Some u) None c d text h k part = absurd h
part_more (Some u) (Some v) None d text h k part = absurd k
part_more (Some u) (Some v) (Some w) None text h k part = absurd part
part_more (Some u) (Some v) (Some w) (Some x) text h k part = (
  part.0 ++ k.1,
  ap (λ l. u ++ l) k.2 ∙ sym (append_assoc u k.0 k.1) ∙ ap (λ l. (l ++ k.0) ++ k.1) (sym h) ∙ ap (λ l. l ++ k.1) (sym k.3 ∙ part.1) ∙ append_assoc x part.0 k.1,
)

-- the whole text was gathered, and a part handed on
pub text_more : (a b c d : Option (List ℕ)) (text : List ℕ) → Keeps a b → Appends b c text → IsFirstPart c d → IsFirstPart (append_known a text) d
text_more None b c d text h k part = tt
text_more (Some u) None c d text h k part = absurd h
text_more (Some u) (Some v) None d text h k part = absurd k
text_more (Some u) (Some v) (Some w) None text h k part = absurd part
text_more (Some u) (Some v) (Some w) (Some x) text h k part = (part.0, ap (λ l. l ++ text) (sym h) ∙ sym k ∙ part.1)

-- the whole text was gathered, and all of it handed on
pub whole_text : (a b c d : Option (List ℕ)) (text : List ℕ) → Keeps a b → Appends b c text → Keeps c d → Appends a d text
whole_text None b c d text h k e = tt
whole_text (Some u) None c d text h k e = absurd h
whole_text (Some u) (Some v) None d text h k e = absurd k
whole_text (Some u) (Some v) (Some w) None text h k e = absurd e
whole_text (Some u) (Some v) (Some w) (Some x) text h k e = e ∙ k ∙ ap (λ l. l ++ text) h
