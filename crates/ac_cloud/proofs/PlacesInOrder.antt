-- Where ids rise, each provider is found at its own place.
use Rattle.std.proofs.Common.{◌≡◌, ◌≢◌, ℕ, ◌+◌, ◌<◌, zero, suc, List, [], ◌∷◌, length, Some, ap, ◌∙◌, arith}
use Rattle.std.specs.List.{position_from}
use Rattle.std.proofs.lemmas.Bool.{eq-eqb, ne_eqb}
use Rattle.ac_cloud.specs.World.{Provider, id_at, place_of, is_provider}

-- the first provider of an id is where no earlier one has it
first_at : (all : List Provider) (id i r : ℕ) → r < length all → id_at all r ≡ id → ((j : ℕ) → j < r → id_at all j ≢ id) → position_from (is_provider id) i all ≡ Some (i + r)
first_at [] id i r h e apart = absurd (omega arith)
first_at (q ∷ all) id i zero h e apart = grind (arith, eq-eqb q.id id e)
first_at (q ∷ all) id i (suc r) h e apart =
    let other = ne_eqb q.id id (apart 0 (omega arith)) in
    grind (arith, first_at all id (i + 1) r (omega arith) e (λ j l. apart (suc j) (omega arith)))

-- where the ids rise, a provider is found at its own place
pub place_in_order : (all : List Provider) → ((p q : ℕ) → p < q → q < length all → id_at all p < id_at all q) → (id r : ℕ) → r < length all → id_at all r ≡ id → place_of all id ≡ Some r
place_in_order all order id r h e =
    let none : 0 + r ≡ r = omega arith in
    first_at all id 0 r h e (λ j l same. let less = order j r l h in omega arith) ∙ ap Some none
