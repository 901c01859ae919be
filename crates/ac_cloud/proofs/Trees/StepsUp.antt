-- Steps that are taken two at a time.
use Rattle.ac_cloud.proofs.Common.{◌≡◌, ◌<◌, ◌+◌, ◌%◌, ◌∙◌, ℕ, zero, suc, List, get_or, length, Option, None, refl, ap, sym, subst, arith, IfSome, unwrap_or, climb, up, along, AreParents, ArePlaces, parent_in}
use Rattle.std.proofs.Common.{◌/◌}
use Rattle.std.proofs.lemmas.Grind.{common_steps}

-- half as many double steps lead to the same place
climb_twice : (n : ℕ) (f g : ℕ → ℕ) (inside : (i : ℕ) → i < n → g i < n) (same : (i : ℕ) → i < n → f i ≡ g (g i)) (k i : ℕ) → i < n → climb f k i ≡ climb g (k + k) i
climb_twice n f g inside same zero i h = refl
climb_twice n f g inside same (suc k) i h =
    let two : suc k + suc k ≡ suc (suc (k + k)) = omega arith in
    ap (climb f k) (same i h) ∙ climb_twice n f g inside same k (g (g i)) (inside (g i) (inside i h)) ∙ ap (λ (m : ℕ). climb g m i) (sym two)

-- steps after steps
climb_plus : (f : ℕ → ℕ) (b a i : ℕ) → climb f a (climb f b i) ≡ climb f (b + a) i
climb_plus f zero a i = grind (arith)
climb_plus f (suc b) a i =
    let more : suc b + a ≡ suc (b + a) = omega arith in
    climb_plus f b a (f i) ∙ ap (λ (m : ℕ). climb f m i) (sym more)

-- steps stay inside
climb_inside : (n : ℕ) (f : ℕ → ℕ) (inside : (i : ℕ) → i < n → f i < n) (k i : ℕ) → i < n → climb f k i < n
climb_inside n f inside zero i h = h
climb_inside n f inside (suc k) i h = climb_inside n f inside k (f i) (inside i h)

-- equal steps lead to equal places
climb_same : (n : ℕ) (f g : ℕ → ℕ) (inside : (i : ℕ) → i < n → g i < n) (same : (i : ℕ) → i < n → f i ≡ g i) (k i : ℕ) → i < n → climb f k i ≡ climb g k i
climb_same n f g inside same zero i h = refl
climb_same n f g inside same (suc k) i h = ap (climb f k) (same i h) ∙ climb_same n f g inside same k (g i) (inside i h)

-- who has a parent among n, or stays, is among n
up_one_inside : (n i : ℕ) (o : Option ℕ) → i < n → IfSome o (λ j. j < n) → unwrap_or o i < n
up_one_inside n i o h known = grind (arith, common_steps)

up_inside : (parents : List (Option ℕ)) → AreParents parents → (i : ℕ) → i < length parents → up (parent_in parents) i < length parents
up_inside parents known i h = up_one_inside (length parents) i (get_or parents i None) h (known i h)

-- the steps of a list are inside where they are those of parents
pub steps_inside : (parents : List (Option ℕ)) (step : List ℕ) → AreParents parents → length step ≡ length parents
    → ((i : ℕ) → i < length parents → get_or step i 0 ≡ up (parent_in parents) i) → ArePlaces (length parents) step
steps_inside parents step known count same i h = grind (arith, up_inside)

-- the steps of a list are those of parents
pub climb_list : (parents : List (Option ℕ)) (step : List ℕ) → AreParents parents
    → ((i : ℕ) → i < length parents → get_or step i 0 ≡ up (parent_in parents) i)
    → (k i : ℕ) → i < length parents → climb (along step) k i ≡ climb (up (parent_in parents)) k i
climb_list parents step known same k i h = climb_same (length parents) (along step) (up (parent_in parents)) (up_inside parents known) same k i h

-- double steps inside
pub twice_inside : (n : ℕ) (step twice : List ℕ) → ArePlaces n step → length step ≡ n → length twice ≡ n
    → ((i : ℕ) → i < n → get_or twice i 0 ≡ get_or step (get_or step i 0) 0) → ArePlaces n twice
twice_inside n step twice inside count count2 same i h = grind (arith)

-- places after one more step, or none, are inside
pub after_inside : (n b : ℕ) (step places after : List ℕ) → ArePlaces n step → length step ≡ n → ArePlaces n places → length after ≡ length places
    → ((i : ℕ) → i < length after → get_or after i 0 ≡ climb (along step) b (get_or places i 0)) → ArePlaces n after
after_inside n b step places after inside count before same_length same i h = grind (arith, climb_inside)

-- an odd step taken and the rest halved lead to the same place
pub ahead_halved : (n left : ℕ) (step twice : List ℕ) (place after : ℕ) → ArePlaces n step → length step ≡ n
    → ((i : ℕ) → i < n → get_or twice i 0 ≡ get_or step (get_or step i 0) 0)
    → place < n → after ≡ climb (along step) (left % 2) place
    → climb (along twice) (left / 2) after ≡ climb (along step) left place
ahead_halved n left step twice place after inside count same h e =
    let inside2 : (j : ℕ) → j < n → along step j < n = λ (j : ℕ) (k : j < n). inside j (omega (arith, k, count)) in
    let h2 : after < n = subst (λ (m : ℕ). m < n) (sym e) (climb_inside n (along step) inside2 (left % 2) place h) in
    let whole : left % 2 + (left / 2 + left / 2) ≡ left = omega arith in
    climb_twice n (along twice) (along step) inside2 same (left / 2) after h2
    ∙ ap (climb (along step) (left / 2 + left / 2)) e
    ∙ climb_plus (along step) (left % 2) (left / 2 + left / 2) place
    ∙ ap (λ (m : ℕ). climb (along step) m place) whole
