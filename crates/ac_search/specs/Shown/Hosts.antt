-- A walk that looks for the roots at which candidates stand.
use Rattle.std.specs.Prelude.{◌≡◌, ℕ, ◌<◌, ◌&&◌, true, false, not, length, IsSome}
use Rattle.ac_rules.specs.Together.{takes_root}
use Rattle.ac_rules.specs.Pages.{candidates}
use Rattle.ac_prune.specs.Marks.{stand_at}
use Rattle.ac_prune.specs.Fitting.{fits_at}
use Rattle.ac_search.specs.Hosts.{is_looked_at, standing}
use Rattle.ac_search.specs.Shown.Walk.{cloud_in, query_in, roots_in, left_of, may_stop}
use Rattle.ac_search.specs.declared.walk.Walk.{Walk}

-- Left are the candidates that stand at a root that it looks at. It looks at roots that the query takes; those that it doesn't look at fit.
pub record Settles (w : Walk) : Type 0 where
  pub some : IsSome (roots_in w)
  pub left : left_of w ≡ standing (cloud_in w) (roots_in w) (candidates (cloud_in w) (query_in w))
  pub taken : (r : ℕ) → r < length (cloud_in w) → is_looked_at (roots_in w) r ≡ true → takes_root (cloud_in w) (query_in w) r ≡ true
  pub found : (r : ℕ) → r < length (cloud_in w) → takes_root (cloud_in w) (query_in w) r ≡ true → is_looked_at (roots_in w) r ≡ false → fits_at (cloud_in w) (query_in w) r ≡ true

-- It looks no more at the roots at which the list in its path stands, and leaves out what stands at no other.
pub record Leaves (old new : Walk) : Type 0 where
  pub some : IsSome (roots_in new)
  pub cloud : cloud_in new ≡ cloud_in old
  pub query : query_in new ≡ query_in old
  pub path : new.path.items ≡ old.path.items
  pub stops : may_stop new → may_stop old
  pub left : left_of new ≡ standing (cloud_in old) (roots_in new) (left_of old)
  pub roots : (r : ℕ) → r < length (cloud_in old) → is_looked_at (roots_in new) r ≡ (is_looked_at (roots_in old) r && not (stand_at (cloud_in old) old.path.items r))

-- it has the same left, at the same roots
pub record Stays (old new : Walk) : Type 0 where
  pub cloud : cloud_in new ≡ cloud_in old
  pub query : query_in new ≡ query_in old
  pub roots : roots_in new ≡ roots_in old
  pub stops : may_stop new → may_stop old
  pub left : left_of new ≡ left_of old

-- Of the roots that the query takes, those fit that it doesn't look at.
abbrev pub IsSettled : Walk → Type 0
IsSettled w = (r : ℕ) → r < length (cloud_in w)
    → fits_at (cloud_in w) (query_in w) r ≡ (takes_root (cloud_in w) (query_in w) r && not (is_looked_at (roots_in w) r))
