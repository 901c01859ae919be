-- The candidates at one root.
use Rattle.std.specs.Prelude.{ℕ, Bool, ◌&&◌, List, Option, Some, None}
use Rattle.std.specs.List.{filter}
use Rattle.ac_cloud.specs.World.{Provider}
use Rattle.ac_prune.specs.Marks.{stand_at}
use Rattle.ac_query.specs.Asked.{Asked}
use Rattle.ac_rules.specs.Pages.{rest}
use Rattle.ac_rules.specs.Together.{takes_root}

-- the query takes a root, and all providers of a list are available in its tree
abbrev pub is_at : List Provider → Asked → ℕ → List ℕ → Bool
is_at all asked r list = takes_root all asked r && stand_at all list r

-- the candidates after some ids, or all of them; at a root, where one is named
abbrev pub rest_at : List Provider → Asked → Option ℕ → Option (List ℕ) → List (List ℕ)
rest_at all asked None ids = rest all asked ids
rest_at all asked (Some r) ids = filter (is_at all asked r) (rest all asked ids)
