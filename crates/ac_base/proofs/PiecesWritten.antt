-- Pieces, one after the other.
use Rattle.std.proofs.Common.{ℕ, suc, ◌<◌, List, ◌++◌, drop, get_or, length, Option, ap, subst, drop-cons}
use Rattle.std.specs.Prelude.{Result, OnErr}
use Rattle.std.specs.List.{flat_map}
use Rattle.ac_base.proofs.Leaving.{Leaves}
use Rattle.std.proofs.Common.{arith}
use Rattle.std.proofs.lemmas.Grind.{common_steps}

-- the next piece is the first that is left
pub next_piece : {X : Type 0} (f : X → List ℕ) (xs : List X) (i : ℕ) (d : X) (a b : Option (List ℕ)) (whole : List ℕ) → i < length xs
    → Leaves a b whole (flat_map f (drop i xs)) → Leaves a b whole (f (get_or xs i d) ++ flat_map f (drop (suc i) xs))
next_piece f xs i d a b whole h leaves = subst (λ (left : List ℕ). Leaves a b whole left) (ap (flat_map f) (drop-cons xs i d h)) leaves

pub on_err : {T E : Type 0} (r : Result T E) (P : Type 0) → P → OnErr r P
on_err r a1 p = grind (arith, common_steps)
