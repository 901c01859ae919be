-- How the parts of a cloud belong together.
use Rattle.std.specs.Prelude.{◌≡◌, ◌<◌, ℕ, Bool, true, false, List, [], map, length, get_or, Option, None, IfSome}
use Rattle.std.specs.List.{All}
use Rattle.std.specs.List.Sorted.{IsStrictlySortedBy}
use Rattle.std.specs.Option.{is_some}
use Rattle.std.specs.Ordering.{nat_cmp}
use Rattle.std.proofs.Props.{props}
use Rattle.ac_base.specs.Names.{trait_bytes}
use Rattle.ac_base.specs.Texts.{text_cmp}
use Rattle.ac_base.specs.declared.name.TraitName.{TraitName}
use Rattle.ac_cloud.specs.Cloud.Anchors.{shares_by, is_marked, AreJoined, IsAlone}
use Rattle.ac_cloud.specs.Cloud.Entries.{entry_class}
use Rattle.ac_cloud.specs.Cloud.Forests.{IsForest}
use Rattle.ac_cloud.specs.Cloud.Visits.{IsWalk}
use Rattle.ac_cloud.specs.declared.cloud.ancestry.Visits.{Visits}
use Rattle.ac_cloud.specs.declared.cloud.anchors.Anchors.{Anchors}
use Rattle.ac_cloud.specs.declared.cloud.entry.Entry.{Entry}

-- Each provider has its parent, its root and its lists, each list in order; it is known who shares, where each one is available, and who is above whom.
pub record AreParts (ids : List ℕ) (parents : List (Option ℕ)) (roots : List ℕ) (entries : List (List Entry)) (traits : List (List TraitName)) (aggregates names : List (List ℕ)) (sharing : List Bool) (anchors : Anchors) (visits : Option Visits) : Type 0 where
  pub forest : IsForest (length ids) parents roots
  pub with_entries : length entries ≡ length ids
  pub with_traits : length traits ≡ length ids
  pub with_aggregates : length aggregates ≡ length ids
  pub with_names : length names ≡ length ids
  pub with_sharing : length sharing ≡ length ids
  pub with_anchors : length anchors.places.items ≡ length ids
  pub classes_rise : All (λ es. IsStrictlySortedBy text_cmp (map entry_class es)) entries
  pub names_rise : All (λ names. IsStrictlySortedBy text_cmp (map trait_bytes names)) traits
  pub aggregates_rise : All (λ all. IsStrictlySortedBy nat_cmp all) aggregates
  pub visited : IfSome visits (λ v. IsWalk parents v.entered.items v.left.items)
  pub shared : (i : ℕ) → i < length ids → get_or sharing i false ≡ shares_by (get_or traits i [])
  pub joined : AreJoined roots aggregates anchors.lists.items anchors.places.items
  pub marked : (j : ℕ) → j < length ids → is_some (get_or anchors.places.items j None) ≡ true → is_marked sharing aggregates j ≡ true
  pub alone : (j : ℕ) → j < length ids → is_some (get_or anchors.places.items j None) ≡ false → is_marked sharing aggregates j ≡ true → IsAlone roots aggregates j

-- The same as one word, so that a proof which only asks a cloud looks through none of it.
unfoldable pub BelongTogether : List ℕ → List (Option ℕ) → List ℕ → List (List Entry) → List (List TraitName) → List (List ℕ) → List (List ℕ) → List Bool → Anchors → Option Visits → Type 0
BelongTogether ids parents roots entries traits aggregates names sharing anchors visits = AreParts ids parents roots entries traits aggregates names sharing anchors visits

pub BelongTogether-prop : (ids : List ℕ) (parents : List (Option ℕ)) (roots : List ℕ) (entries : List (List Entry)) (traits : List (List TraitName)) (aggregates names : List (List ℕ)) (sharing : List Bool) (anchors : Anchors) (visits : Option Visits)
    → IsProp (BelongTogether ids parents roots entries traits aggregates names sharing anchors visits)
unfolding BelongTogether
BelongTogether-prop ids parents roots entries traits aggregates names sharing anchors visits = Prim.hlevel props
