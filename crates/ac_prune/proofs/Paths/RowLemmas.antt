-- Rows of rooms: what asks want of the room of a class, by its place.
use Rattle.std.proofs.Common.{◌≡◌, ◌∙◌, ℕ, ◌+◌, ◌*◌, ◌/◌, ◌<◌, List, [], ◌∷◌, map, refl, sym, ap, arith}
use Rattle.std.specs.Prelude.{◌==◌, if◌then◌else◌}
use Rattle.std.specs.List.{AllByRecursion as Each}
use Rattle.std.proofs.lemmas.Bool.{eq-eqb, ne_eqb}
use Rattle.std.proofs.lemmas.Bool.Decides.{nat_tests}
use Rattle.std.proofs.lemmas.Nat.{div-mul-add}
use Rattle.ac_prune.specs.Left.{ask_pair, wanted, wanted_at}
use Rattle.ac_prune.specs.declared.ledger.rooms.Ask.{Ask}
use Rattle.std.proofs.Common.{rules}

same_column : (row a k : ℕ) → (row + a == row + k) ≡ (a == k)
same_column row a k = grind (arith, nat_tests)

-- of a class in the row
pub wanted_here : (asks : List Ask) (row k : ℕ) → wanted_at row asks (row + k) ≡ wanted (map ask_pair asks) k
wanted_here [] row k = refl
wanted_here (a ∷ asks) row k = rw (same_column row a.class k, wanted_here asks row k) refl

same_row : (w p r a k : ℕ) → a < w → k < w → p * w + a ≡ r * w + k → p ≡ r
same_row w p r a k h l e = sym (div-mul-add p w a h) ∙ (ap (λ (n : ℕ). n / w) e ∙ div-mul-add r w k l)

-- and in another row
wanted_other : (asks : List Ask) (w p r k : ℕ) → Each (λ a. a.class < w) asks → k < w → (p ≡ r → ⊥) → wanted_at (p * w) asks (r * w + k) ≡ 0
wanted_other [] w p r k low h e = refl
wanted_other (a ∷ asks) w p r k low h e = rw (ne_eqb (p * w + a.class) (r * w + k) (λ s. e (same_row w p r a.class k low.0 h s)), wanted_other asks w p r k low.1 h e) refl

pub wanted_there : (asks : List Ask) (w p r k : ℕ) → Each (λ a. a.class < w) asks → k < w → wanted_at (p * w) asks (r * w + k) ≡ (if p == r then wanted (map ask_pair asks) k else 0)
wanted_there asks w p r k low h = search (rules, eq-eqb, wanted_here, ne_eqb, wanted_other)
