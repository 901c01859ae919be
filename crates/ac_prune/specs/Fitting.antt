-- At which roots candidates stand.
use Rattle.std.specs.Prelude.{ℕ, Bool, ◌&&◌, List, map, length}
use Rattle.std.specs.List.{list_any, range_with_len}
use Rattle.ac_query.specs.Asked.{Asked}
use Rattle.ac_cloud.specs.World.{Provider}
use Rattle.ac_rules.specs.Together.{takes_root}
use Rattle.ac_rules.specs.Pages.{candidates}
use Rattle.ac_prune.specs.Marks.{stand_at}

-- a root fits: the query takes it, and all providers of some candidate are available in its tree
abbrev pub fits_at : List Provider → Asked → ℕ → Bool
fits_at all asked r = takes_root all asked r && list_any (λ t. stand_at all t r) (candidates all asked)

-- for each provider by its place, whether it is such a root
abbrev pub fitting : List Provider → Asked → List Bool
fitting all asked = map (fits_at all asked) (range_with_len 0 (length all))
