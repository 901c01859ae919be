-- Sets and maps in the order of their keys, gathered from lists.
use Rattle.std.specs.Prelude.{ℕ, Bool, ◌==◌, List, []}
use Rattle.std.specs.List.{fold, list_any}
use Rattle.std.specs.declared.cmp.Ordering.{Ordering}
use Rattle.std.specs.BTreeMap.{insert_entry}
use Rattle.std.specs.BTreeSet.{insert_key}
use Rattle.ac_base.specs.Texts.{text_cmp}

-- the items, rising in this order, equal ones once
abbrev pub rising : {X : Type 0} → (X → X → Ordering) → List X → List X
rising cmp xs = fold (insert_key cmp) [] xs

-- a map from texts, in the order of its keys
abbrev pub TextMap : Type 0 → Type 0
TextMap X = List (List ℕ × X)

-- the map of these pairs
abbrev pub map_of : {X : Type 0} → List (List ℕ × X) → TextMap X
map_of pairs = fold (λ m p. insert_entry text_cmp m p.0 p.1) [] pairs

-- a number is one of these
abbrev pub is_one_of : List ℕ → ℕ → Bool
is_one_of ids id = list_any (λ p. p == id) ids
