-- Lists that stand one after the other in one list.
use Rattle.std.specs.Prelude.{◌≡◌, ℕ, ◌+◌, ◌-◌, ◌<◌, ◌≤◌, List, map, length, take, drop, get_or}
use Rattle.std.specs.List.{range_with_len}
use Rattle.std.proofs.Props.{props}

-- where lists start that fill n items, and where the last one ends
pub record AreBounds (n : ℕ) (starts : List ℕ) : Type 0 where
  pub some : 0 < length starts
  pub first : get_or starts 0 0 ≡ 0
  pub last : get_or starts (length starts - 1) 0 ≡ n
  pub order : (p : ℕ) → p + 1 < length starts → get_or starts p 0 ≤ get_or starts (p + 1) 0
  pub inside : (p : ℕ) → p < length starts → get_or starts p 0 ≤ n

-- The same as one word, so that a proof which only reads lists looks through none of it.
unfoldable pub AreLaidOut : ℕ → List ℕ → Type 0
AreLaidOut n starts = AreBounds n starts

pub AreLaidOut-prop : (n : ℕ) (starts : List ℕ) → IsProp (AreLaidOut n starts)
unfolding AreLaidOut
AreLaidOut-prop n starts = Prim.hlevel props

-- the list at a place
abbrev pub list_at : {X : Type 0} → List X → List ℕ → ℕ → List X
list_at items starts p = take (get_or starts (p + 1) 0 - get_or starts p 0) (drop (get_or starts p 0) items)

-- all of them
unfoldable pub lists_in : {X : Type 0} → List X → List ℕ → List (List X)
lists_in items starts = map (list_at items starts) (range_with_len 0 (length starts - 1))
