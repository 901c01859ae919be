-- A tree that is copied.
use Rattle.std.specs.Prelude.{◌≡◌, ◌<◌, ℕ, List}
use Rattle.std.specs.List.{All}
use Rattle.std.proofs.Props.{props}
use Rattle.ac_cloud.specs.World.{Provider, root_of}
use Rattle.ac_change.specs.Drafts.{all_held}
use Rattle.ac_change.specs.Trees.{ids_in}
use Rattle.ac_change.specs.declared.draft.held.Held.{Held}

-- these are the UUIDs of those that are held
unfoldable pub AreListed : List Held → List ℕ → Type 0
AreListed list ids = ids ≡ ids_in (all_held list)

pub AreListed-prop : (list : List Held) (ids : List ℕ) → IsProp (AreListed list ids)
unfolding AreListed
AreListed-prop list ids = Prim.hlevel props

-- all are of the tree of one root
abbrev pub AreOfOne : List Provider → ℕ → Type 0
AreOfOne tree r = All (λ p. root_of tree p.id ≡ r) tree

-- the same of those that are held
unfoldable pub AreHeldOfOne : List Held → ℕ → Type 0
AreHeldOfOne list r = AreOfOne (all_held list) r

pub AreHeldOfOne-prop : (list : List Held) (r : ℕ) → IsProp (AreHeldOfOne list r)
unfolding AreHeldOfOne
AreHeldOfOne-prop list r = Prim.hlevel props

-- all UUIDs are less than this number
unfoldable pub AreBelow : ℕ → List Provider → Type 0
AreBelow n all = All (λ (id : ℕ). id < n) (ids_in all)
