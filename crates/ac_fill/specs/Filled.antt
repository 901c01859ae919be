-- Placements one after another, each the first candidate that the ones before it left.
use Rattle.std.specs.Prelude.{ℕ, zero, suc, ◌-◌, Bool, nat_lt, List, [], ◌∷◌, sum_by, Option, Some, None}
use Rattle.std.specs.List.{list_any}
use Rattle.ac_base.specs.Quantities.{capacity}
use Rattle.ac_cloud.specs.World.{Provider, UsedInventory}
use Rattle.ac_query.specs.Asked.{Asked, slots_of}
use Rattle.ac_rules.specs.Claims.{claimed}
use Rattle.ac_rules.specs.Pages.{candidates}
use Rattle.ac_rules.specs.Placed.{assigned}

-- some slot asks for an amount of a class, so each placement takes room
unfoldable pub asks_units : Asked → Bool
asks_units asked = list_any (λ slot. list_any (λ need. nat_lt 0 need.1) slot.needs) (slots_of asked)

-- what is left of an inventory
abbrev pub units_in : UsedInventory → ℕ
units_in had = capacity had.inventory - had.used

-- what a provider has left of all its classes together
abbrev pub units_at : Provider → ℕ
units_at p = sum_by (λ e. units_in e.1) p.entries

-- what all providers have left
unfoldable pub units_left : List Provider → ℕ
units_left all = sum_by units_at all

-- The first of some candidates is placed, and then what follows it; without a candidate nothing is.
abbrev pub first_placed : (List ℕ → List (List ℕ)) → List (List ℕ) → List (List ℕ)
first_placed behind [] = []
first_placed behind (t ∷ ts) = t ∷ behind t

-- At most n placements: the first candidate, and then those of the world after its claim.
unfoldable pub placements : ℕ → List Provider → Asked → List (List ℕ)
placements zero all asked = []
placements (suc n) all asked = first_placed (λ t. placements n (claimed all (assigned asked t)) asked) (candidates all asked)

-- How many placements are tried: as many as the limit says. Without one, as many as there are units left: each placement takes one at least.
abbrev pub tried : Option ℕ → List Provider → ℕ
tried None all = units_left all
tried (Some n) all = n

-- the placements of a query in a world, up to a limit
unfoldable pub filled : Option ℕ → List Provider → Asked → List (List ℕ)
filled limit all asked = placements (tried limit all) all asked

-- the world after the claims of some placements
abbrev pub after : List Provider → Asked → List (List ℕ) → List Provider
after all asked [] = all
after all asked (t ∷ ts) = after (claimed all (assigned asked t)) asked ts
