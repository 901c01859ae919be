-- What holds of each query: suffixes are different, and the needs of a group are as they should be.
use Rattle.std.specs.Prelude.{◌≡◌, ◌<◌, ℕ, false, List, [], ◌∷◌, map, Option, IsSome, bytes_eq, ⊤}
use Rattle.std.specs.Option.{unwrap_or}
use Rattle.std.specs.List.{AllByRecursion}
use Rattle.ac_query.specs.declared.version.Version.{Version}
use Rattle.ac_query.specs.Asked.{Group, Asked}
use Rattle.ac_query.specs.Laws.Gathered.{asked_by}

-- the suffix of a group; the empty text stands for the unsuffixed one
abbrev pub group_name : Option (List ℕ) × Group → List ℕ
group_name g = unwrap_or g.0 []

-- texts that are all different
abbrev pub AreApart : List (List ℕ) → Type 0
AreApart [] = ⊤
AreApart (t ∷ ts) = AllByRecursion (λ s. bytes_eq t s ≡ false) ts × AreApart ts

-- amounts are at least 1, and no class stands twice
pub record AreNeeds (needs : List (List ℕ × ℕ)) : Type 0 where
  pub positive : AllByRecursion (λ need. 0 < need.1) needs
  pub once : AreApart (map (λ need. need.0) needs)

-- groups behind the first, which all have a suffix
abbrev pub AreSuffixed : List (Option (List ℕ) × Group) → Type 0
AreSuffixed gs = AllByRecursion (λ g. IsSome g.0) gs

-- the first group alone may be without a suffix
abbrev pub IsFirstPlain : List (Option (List ℕ) × Group) → Type 0
IsFirstPlain [] = ⊤
IsFirstPlain (g ∷ gs) = AreSuffixed gs

-- Only the first group may have no suffix, suffixes are different and none is empty, and the needs of each group are as they should be.
pub record IsInOrder (asked : Asked) : Type 0 where
  pub first : IsFirstPlain asked.groups
  pub names : AreApart (map group_name asked.groups)
  pub needs : AllByRecursion (λ g. AreNeeds g.1.needs) asked.groups

-- What pairs ask for is in order, be they accepted or not.
abbrev pub QueryInOrder : Type 0
QueryInOrder = (version : Version) (pairs : List (List ℕ × List ℕ)) → IsInOrder (asked_by version pairs)
