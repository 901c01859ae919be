-- Trees, by the parents of their providers.
use Rattle.std.specs.Prelude.{◌≡◌, ℕ, zero, suc, Bool, ◌==◌, List, [], ◌∷◌, Option, Some, None}
use Rattle.std.specs.Option.{unwrap_or, option_map, is_some}
use Rattle.std.specs.List.{list_any}

-- Providers lead from b to a, each the parent of the one before it; b stands before the first.
abbrev pub LeadsUp : (ℕ → Option ℕ) → ℕ → List ℕ → ℕ → Type 0
LeadsUp parent b [] a = b ≡ a
LeadsUp parent b (p ∷ path) a = (parent b ≡ Some p) × LeadsUp parent p path a

-- a is above b: a list of parents leads from b to a; b alone counts
abbrev pub Above : (ℕ → Option ℕ) → ℕ → ℕ → Type 0
Above parent a b = (path : List ℕ) × LeadsUp parent b path a

-- r is the root of p: above it, and without a parent
pub record IsRootOf (parent : ℕ → Option ℕ) (r p : ℕ) : Type 0 where
  pub above : Above parent r p
  pub ends : parent r ≡ None

-- one step up: who has no parent stays
abbrev pub up : (ℕ → Option ℕ) → ℕ → ℕ
up parent p = unwrap_or (parent p) p

-- so many steps
abbrev pub climb : (ℕ → ℕ) → ℕ → ℕ → ℕ
climb step zero p = p
climb step (suc k) p = climb step k (step p)

-- where so many steps up lead; as many as there are providers reach the root, where the chain of parents ends
abbrev pub top : (ℕ → Option ℕ) → ℕ → ℕ → ℕ
top parent count p = climb (up parent) count p

-- the chain of parents doesn't end: after as many steps as there are providers, a parent is still there
abbrev pub is_endless : (ℕ → Option ℕ) → ℕ → ℕ → Bool
is_endless parent count p = is_some (parent (top parent count p))

-- b and the chain of its parents, as far as so many steps
abbrev pub chain : (ℕ → Option ℕ) → ℕ → ℕ → List ℕ
chain parent zero b = b ∷ []
chain parent (suc k) b = b ∷ unwrap_or (option_map (λ p. chain parent k p) (parent b)) []

-- a stands in the chain of b
abbrev pub is_in_chain : (ℕ → Option ℕ) → ℕ → ℕ → ℕ → Bool
is_in_chain parent count a b = list_any (λ p. p == a) (chain parent count b)
