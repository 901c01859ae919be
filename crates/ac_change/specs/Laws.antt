-- What changes leave as it is.
use Rattle.std.specs.Prelude.{◌≡◌, ◌<◌, ℕ, true, false, List, length, Ok}
use Rattle.std.specs.List.{All}
use Rattle.std.specs.List.Sorted.{IsStrictlySortedBy}
use Rattle.ac_base.specs.Texts.{text_cmp}
use Rattle.ac_cloud.specs.World.{Provider, has_trait, id_at, is_root, parent_of, provider_at, root_of}
use Rattle.ac_change.specs.Changes.{Edit, Scope, added, changed, edit, edited_in, gains, is_touched, last_id, loses, root, without_tree}
use Rattle.ac_change.specs.Trees.{AreTrees}

-- The providers are the same, each in its tree.
pub record AreSameTrees (all left : List Provider) : Type 0 where
  pub count : length left ≡ length all
  pub ids : (ix : ℕ) → id_at left ix ≡ id_at all ix
  pub parents : (id : ℕ) → parent_of left id ≡ parent_of all id
  pub roots : (id : ℕ) → root_of left id ≡ root_of all id

-- An edit leaves all trees as they are.
abbrev pub EditsKeepTrees : Type 0
EditsKeepTrees = (all : List Provider) (scope : Scope) (e : Edit) → AreSameTrees all (edited_in all scope e)

-- Where a tree is gone, what is left are trees, and each provider that is left has its parent and its root.
abbrev pub OtherTreesStay : Type 0
OtherTreesStay =
    (all : List Provider) (r : ℕ) → AreTrees all
    → AreTrees (without_tree all r)
    × ((ix : ℕ) → ix < length (without_tree all r)
    → (parent_of (without_tree all r) (id_at (without_tree all r) ix) ≡ parent_of all (id_at (without_tree all r) ix))
    × (root_of (without_tree all r) (id_at (without_tree all r) ix) ≡ root_of all (id_at (without_tree all r) ix)))

-- An edit leaves a provider as it is that it doesn't touch.
abbrev pub OthersStay : Type 0
OthersStay =
    (all : List Provider) (scope : Scope) (e : Edit) (ix : ℕ) → ix < length all → is_touched all scope (provider_at all ix) ≡ false
    → provider_at (edited_in all scope e) ix ≡ provider_at all ix

-- Each provider's traits stand in byte order, each once.
abbrev pub AreNamedInOrder : List Provider → Type 0
AreNamedInOrder all = All (λ p. IsStrictlySortedBy text_cmp p.traits) all

-- Whom an edit touches hasn't this trait.
abbrev pub AreWithout : List Provider → Scope → List ℕ → Type 0
AreWithout all scope name = All (λ p. is_touched all scope p ≡ true → has_trait p name ≡ false) all

-- A trait that is gained and then lost leaves the providers as they were, if none of those whom it touches had it: so does `enable` after `disable` of a
-- root that wasn't disabled.
abbrev pub LosesWhatItGained : Type 0
LosesWhatItGained =
    (all left : List Provider) (text name : List ℕ) → AreNamedInOrder all → AreWithout all (root text) name
    → changed all (edit (root text) (gains name)) ≡ Ok left → changed left (edit (root text) (loses name)) ≡ Ok all

-- Where there is one tree more like that of a root, and then the tree of the last provider is gone, all is as it was.
abbrev pub AddedGoesAgain : Type 0
AddedGoesAgain =
    (all left : List Provider) (r : ℕ) → AreTrees all → is_root all r ≡ true → added all 1 r ≡ Ok left → without_tree left (root_of left (last_id left)) ≡ all
