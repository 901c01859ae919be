-- The providers of a draft.
use Rattle.std.specs.Prelude.{◌≡◌, ℕ, List, map, if◌then◌else◌}
use Rattle.std.proofs.Props.{props}
use Rattle.ac_cloud.specs.World.{Provider, root_of}
use Rattle.ac_change.specs.Changes.{Edit, edited}
use Rattle.ac_change.specs.Held.{provider_held}
use Rattle.ac_change.specs.Marked.{is_marked}
use Rattle.ac_change.specs.Trees.{AreTrees}
use Rattle.ac_change.specs.declared.draft.held.Held.{Held}
use Rattle.ac_change.specs.declared.draft.touched.Touched.{Touched}

-- those that are held
unfoldable pub all_held : List Held → List Provider
all_held list = map provider_held list

-- the roots with which they are held
abbrev pub roots_held : List Held → List ℕ
roots_held list = map (λ h. h.root) list

-- the roots of their trees
abbrev pub roots_in : List Provider → List ℕ
roots_in all = map (λ p. root_of all p.id) all

-- each is held with the root of its tree
unfoldable pub AreRooted : List Held → Type 0
AreRooted list = roots_held list ≡ roots_in (all_held list)

pub AreRooted-prop : (list : List Held) → IsProp (AreRooted list)
unfolding AreRooted
AreRooted-prop list = Prim.hlevel props

-- they stand in order, and their chains of parents end
unfoldable pub AreWhole : List Held → Type 0
AreWhole list = AreTrees (all_held list)

pub AreWhole-prop : (list : List Held) → IsProp (AreWhole list)
unfolding AreWhole
AreWhole-prop list = Prim.hlevel props

-- the provider after an edit of those that are marked
abbrev pub edited_held : Touched → Edit → Held → Provider
edited_held touched e h = if is_marked touched h then edited e (provider_held h) else provider_held h
