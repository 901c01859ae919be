-- A sink that has taken all but a rest of some bytes.
use Rattle.std.proofs.Common.{◌≡◌, ℕ, ◌∙◌, sym, ap, List, [], ◌++◌, take, drop, subst, Option, Some, None, append_assoc}
use Rattle.std.specs.Prelude.{⊤}
use Rattle.std.proofs.lemmas.List.{take-append-drop}
use Rattle.std.specs.Io.KnownBytes.{Appends, Keeps}
use Rattle.ac_base.specs.Devices.{TakesPart}
use Rattle.std.proofs.Common.{arith}
use Rattle.std.proofs.lemmas.Grind.{common_steps}

-- of these bytes it has taken all but the rest
abbrev pub Leaves : Option (List ℕ) → Option (List ℕ) → List ℕ → List ℕ → Type 0
Leaves None new bytes rest = ⊤
Leaves (Some xs) None bytes rest = ⊥
Leaves (Some xs) (Some ys) bytes rest = (part : List ℕ) × (bytes ≡ part ++ rest) × (ys ≡ xs ++ part)

pub leaves_start : (a : Option (List ℕ)) (bytes : List ℕ) → Leaves a a bytes bytes
leaves_start a bytes = grind (arith, common_steps)

pub leaves_keeps : (a b c : Option (List ℕ)) (bytes rest : List ℕ) → Leaves a b bytes rest → Keeps b c → Leaves a c bytes rest
leaves_keeps a b c bytes rest h k = grind (arith, common_steps)

pub leaves_appends : (a b c : Option (List ℕ)) (bytes piece rest : List ℕ) → Leaves a b bytes (piece ++ rest) → Appends b c piece → Leaves a c bytes rest
leaves_appends None b c bytes piece rest h k = tt
leaves_appends (Some u) None c bytes piece rest h k = absurd h
leaves_appends (Some u) (Some v) None bytes piece rest h k = absurd k
leaves_appends (Some u) (Some v) (Some w) bytes piece rest h k =
    (h.0 ++ piece, h.1 ∙ sym (append_assoc h.0 piece rest), k ∙ ap (λ l. l ++ piece) h.2 ∙ append_assoc u h.0 piece)

-- a first part of the rest
pub leaves_takes : (a b c : Option (List ℕ)) (bytes rest : List ℕ) (n : ℕ) → Leaves a b bytes rest → Appends b c (take n rest) → Leaves a c bytes (drop n rest)
leaves_takes a b c bytes rest n h k =
    let P : List ℕ → Type 0 = λ l. Leaves a b bytes l in
    leaves_appends a b c bytes (take n rest) (drop n rest) (subst P (sym (take-append-drop n rest)) h) k

pub leaves_none : (a b : Option (List ℕ)) (bytes : List ℕ) → Leaves a b bytes [] → Appends a b bytes
leaves_none a b bytes h = grind (arith, common_steps)

pub leaves_part : (a b : Option (List ℕ)) (bytes rest : List ℕ) → Leaves a b bytes rest → TakesPart a b bytes
leaves_part a b bytes rest h = grind (arith, common_steps)

-- a part of the next piece
pub leaves_takes_part : (a b c : Option (List ℕ)) (bytes piece rest : List ℕ) → Leaves a b bytes (piece ++ rest) → TakesPart b c piece → TakesPart a c bytes
leaves_takes_part None b c bytes piece rest h k = tt
leaves_takes_part (Some u) None c bytes piece rest h k = absurd h
leaves_takes_part (Some u) (Some v) None bytes piece rest h k = absurd k
leaves_takes_part (Some u) (Some v) (Some w) bytes piece rest h k = (
  h.0 ++ k.0,
  k.1 ++ rest,
  h.1 ∙ ap (λ l. h.0 ++ (l ++ rest)) k.2 ∙ ap (λ l. h.0 ++ l) (append_assoc k.0 k.1 rest) ∙ sym (append_assoc h.0 k.0 (k.1 ++ rest)),
  k.3 ∙ ap (λ l. l ++ k.0) h.2 ∙ append_assoc u h.0 k.0,
)

-- ---- two pieces, one after the other

pub appends_both : (a b c : Option (List ℕ)) (x y : List ℕ) → Appends a b x → Appends b c y → Appends a c (x ++ y)
appends_both a b c x y h k = grind (arith, common_steps)

pub part_of_first : (a b : Option (List ℕ)) (x y : List ℕ) → TakesPart a b x → TakesPart a b (x ++ y)
part_of_first a b x y h = grind (arith, common_steps)

pub part_of_second : (a b c : Option (List ℕ)) (x y : List ℕ) → Appends a b x → TakesPart b c y → TakesPart a c (x ++ y)
part_of_second None b c x y h k = tt
part_of_second (Some u) None c x y h k = absurd h
part_of_second (Some u) (Some v) None x y h k = absurd k
part_of_second (Some u) (Some v) (Some w) x y h k =
    (x ++ k.0, k.1, ap (λ l. x ++ l) k.2 ∙ sym (append_assoc x k.0 k.1), k.3 ∙ ap (λ l. l ++ k.0) h ∙ append_assoc u x k.0)

-- an error within the first of them, or what becomes of the second behind the first
pub ruleset behind = (appends_both, part_of_first, part_of_second)

-- nothing was taken
pub part_none : (a : Option (List ℕ)) (bytes : List ℕ) → TakesPart a a bytes
part_none a bytes = grind (arith, common_steps)
