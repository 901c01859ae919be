use Rattle.std.proofs.Common.{◌≡◌, ◌+◌, ◌∷◌, List, drop, map}
use Rattle.ac_base.specs.Writing.Rows.{HasRows}
use Rattle.ac_run.specs.Wanted.Named.{AreNamed, Naming}
use Rattle.ac_run.specs.Wanted.NamedFlavors.{flavor_columns, flavor_row, flavor_with_ids, flavors_with_ids, with_records}
use Rattle.ac_tables.specs.Flavors.{Flavor, flavor_shown}
use Rattle.ac_run.proofs.EachFound.{found_behind}
use Rattle.ac_run.proofs.wanted.named.flavors.flavors_text.Given as goal

abbrev pub invariant-loop-flavor : goal.invariant-loop-flavor
invariant-loop-flavor l =
    (done : List Flavor) × HasRows l.rows (flavor_columns ∷ map flavor_row done)
    × ((called : Naming) → AreNamed called l.naming
    → found_behind (flavor_with_ids called) done (with_records l.row (map flavor_shown (drop l.flavor-index l.flavors))) ≡ flavors_with_ids called (map flavor_shown l.flavors))
    × (l.row ≡ l.flavor-index + 2)
