-- Marks of trees, as private clauses speak of them.
use Rattle.std.specs.Prelude.{◌≡◌, ◌<◌, ℕ, Bool, false, List, length, slice_index_or}
use Rattle.ac_cloud.specs.World.{Provider, id_at}
use Rattle.ac_find.specs.Service.Differing.{tree_has_other}

-- a mark for each provider: whether it is a root in whose tree an inventory has another capacity by a ratio in double precision
pub record AreMarked (all : List Provider) (marks : List Bool) : Type 0 where
  pub long : length marks ≡ length all
  pub at_root : (r : ℕ) → r < length all → slice_index_or marks r false ≡ tree_has_other all (id_at all r)
