-- Lists of numbers: their order, all of them, and the first of some.
use Rattle.std.specs.Prelude.{◌≡◌, ◌<◌, ◌&&◌, ◌||◌, ◌==◌, nat_lt, ℕ, zero, suc, Bool, true, false, List, [], ◌∷◌, ◌++◌, map, length, Option, Some, None, Result, Ok, Err, ⊤}
use Rattle.std.specs.Borrow.{Bor}
use Rattle.std.specs.Option.{option_copied}
use Rattle.std.specs.List.{flat_map, range_with_len, All, AllByRecursion}

-- one list is before another, item by item; a front of a list is before it
abbrev pub lex_lt : List ℕ → List ℕ → Bool
lex_lt [] [] = false
lex_lt [] (y ∷ ys) = true
lex_lt (x ∷ xs) [] = false
lex_lt (x ∷ xs) (y ∷ ys) = nat_lt x y || ((x == y) && lex_lt xs ys)

-- the first item, and those behind it
abbrev pub head_of : {X : Type 0} → List X → Option X
head_of [] = None
head_of (x ∷ xs) = Some x

abbrev pub tail_of : {X : Type 0} → List X → List X
tail_of [] = []
tail_of (x ∷ xs) = xs

-- what a source answered, with the list that it lent
abbrev pub lent : {E : Type 0} → Result (Option (Bor (List ℕ))) E → Result (Option (List ℕ)) E
lent (Ok list) = Ok (option_copied list)
lent (Err e) = Err e

-- what a source has left behind its answer: where it stopped, all
abbrev pub left_behind : {E X : Type 0} → Result X E → List (List ℕ) → List (List ℕ)
left_behind (Ok list) xs = tail_of xs
left_behind (Err e) xs = xs

-- the lists of k numbers below n, in order
abbrev pub all_lists : ℕ → ℕ → List (List ℕ)
all_lists n zero = [] ∷ []
all_lists n (suc k) = flat_map (λ first. map (λ t. first ∷ t) (all_lists n k)) (range_with_len 0 n)

-- a list of k numbers below n
pub record IsListBelow (n k : ℕ) (t : List ℕ) : Type 0 where
  pub long : length t ≡ k
  pub below : All (λ p. p < n) t

-- each list is before all later ones
abbrev pub IsRising : List (List ℕ) → Type 0
IsRising [] = ⊤
IsRising (x ∷ xs) = AllByRecursion (λ y. lex_lt x y ≡ true) xs × IsRising xs

-- a list begins with another
abbrev pub BeginsWith : List ℕ → List ℕ → Type 0
BeginsWith t front = (more : List ℕ) × (t ≡ front ++ more)

-- of some lists the first ones are passed over, each of which begins with a front
abbrev pub PassesOver : List ℕ → List (List ℕ) → List (List ℕ) → Type 0
PassesOver front old new = (gone : List (List ℕ)) × (old ≡ gone ++ new) × AllByRecursion (λ t. BeginsWith t front) gone
