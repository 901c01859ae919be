-- The roots of the trees that aggregates join, by places.
use Rattle.std.specs.Prelude.{◌≡◌, ◌<◌, ℕ, Bool, ◌&&◌, ◌==◌, false, not, if◌then◌else◌, codes, List, [], ◌∷◌, map, length, get_or, Option, Some, None}
use Rattle.std.specs.Global.{Vec}
use Rattle.std.specs.List.{list_any, filter, range_with_len}
use Rattle.std.specs.Ordering.{nat_cmp}
use Rattle.std.specs.BTreeMap.{BTreeMap, get}
use Rattle.std.specs.Str.{bytes_eq}
use Rattle.ac_base.specs.Names.{trait_bytes}
use Rattle.ac_base.specs.declared.name.TraitName.{TraitName}

-- the roots of an aggregate, where some were gathered
abbrev pub roots_in : Option (Vec ℕ) → List ℕ
roots_in None = []
roots_in (Some roots) = roots.items

-- a root is among those gathered of an aggregate
abbrev pub is_met : BTreeMap ℕ (Vec ℕ) → ℕ → ℕ → Bool
is_met groups aggregate root = list_any (λ r. r == root) (roots_in (get nat_cmp groups aggregate))

-- an aggregate is one of these
abbrev pub is_among : ℕ → List ℕ → Bool
is_among aggregate ids = list_any (λ a. a == aggregate) ids

-- the provider at a place has this root and belongs to the aggregate
abbrev pub meets_at : List ℕ → List (List ℕ) → ℕ → ℕ → ℕ → Bool
meets_at roots aggregates aggregate root place = (get_or roots place 0 == root) && is_among aggregate (get_or aggregates place [])

-- one of the first n providers does
abbrev pub meets : List ℕ → List (List ℕ) → ℕ → ℕ → ℕ → Bool
meets roots aggregates n aggregate root = list_any (meets_at roots aggregates aggregate root) (range_with_len 0 n)

-- some of these aggregates has a provider of this root
abbrev pub is_joined : List ℕ → List (List ℕ) → List ℕ → ℕ → Bool
is_joined roots aggregates ids root = list_any (λ aggregate. meets roots aggregates (length roots) aggregate root) ids

-- the roots of the providers of these aggregates, rising
abbrev pub joined : List ℕ → List (List ℕ) → List ℕ → List ℕ
joined roots aggregates ids = filter (is_joined roots aggregates ids) (range_with_len 0 (length roots))

-- a provider shares through some aggregate
abbrev pub is_joining : Bool → List ℕ → Bool
is_joining shares [] = false
is_joining shares (a ∷ ids) = shares

-- the numbers in a list of roots
abbrev pub list_items : Vec ℕ → List ℕ
list_items list = list.items

-- the list of a place
abbrev pub list_of : List (Vec ℕ) → ℕ → List ℕ
list_of lists k = get_or (map list_items lists) k []

-- the lists of those providers that have one are those of the aggregates that were asked
abbrev pub AreAsked : List ℕ → List (List ℕ) → List (List ℕ) → List (Vec ℕ) → List (Option ℕ) → Type 0
AreAsked roots aggregates asked lists places = (j k : ℕ) → j < length places → get_or places j None ≡ Some k → (k < length lists) × (list_of lists k ≡ joined roots aggregates (get_or asked j []))

-- the lists of those providers that have one are those of their aggregates
abbrev pub AreJoined : List ℕ → List (List ℕ) → List (Vec ℕ) → List (Option ℕ) → Type 0
AreJoined roots aggregates lists places = AreAsked roots aggregates aggregates lists places

-- an aggregate of these roots is of one tree
abbrev pub is_lone : List ℕ → Bool
is_lone roots = length roots == 1

-- the aggregates among these that are of several trees
abbrev pub wide : BTreeMap ℕ (Vec ℕ) → List ℕ → List ℕ
wide groups ids = filter (λ a. not (is_lone (roots_in (get nat_cmp groups a)))) ids

-- the aggregates of a provider, where it shares
abbrev pub shared_ids : Bool → List ℕ → List ℕ
shared_ids shares ids = if shares then ids else []

-- those of the provider at a place through which it may share with another tree
abbrev pub asked_at : BTreeMap ℕ (Vec ℕ) → List Bool → List (List ℕ) → ℕ → List ℕ
asked_at groups sharing aggregates j = wide groups (shared_ids (get_or sharing j false) (get_or aggregates j []))

-- the provider at a place shares through some aggregate
abbrev pub is_marked : List Bool → List (List ℕ) → ℕ → Bool
is_marked sharing aggregates j = is_joining (get_or sharing j false) (get_or aggregates j [])

-- a provider of these traits shares what it has
abbrev pub shares_by : List TraitName → Bool
shares_by names = list_any (λ name. bytes_eq (codes "MISC_SHARES_VIA_AGGREGATE") (trait_bytes name)) names

-- the aggregates of a provider join no tree but its own
abbrev pub IsAlone : List ℕ → List (List ℕ) → ℕ → Type 0
IsAlone roots aggregates j = joined roots aggregates (get_or aggregates j []) ≡ get_or roots j 0 ∷ []
