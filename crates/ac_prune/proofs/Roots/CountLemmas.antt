-- Items in boxes: where no box is overfilled, the rooms of the boxes reach what all items weigh.
use Rattle.std.proofs.Common.{◌≡◌, ℕ, ◌+◌, ◌*◌, ◌<◌, ◌≤◌, zero, suc, Bool, true, false, List, [], ◌∷◌, ◌++◌, inl, inr, length, drop, get_or, slice_index, slice_set, refl, sym, ap, ◌∙◌, subst, arith, drop-cons, add-one}
use Rattle.std.specs.Prelude.{◌==◌, if◌then◌else◌, min, cond}
use Rattle.std.specs.List.{filter, range_with_len, AllByRecursion as Each}
use Rattle.ac_cloud.specs.World.{Provider, is_available_at, anchors_of}
use Rattle.ac_prune.specs.Marks.{times}
use Rattle.ac_prune.proofs.Paths.MarkLemmas.{times_anchors}
use Rattle.ac_prune.proofs.Search.OpenLemmas.{choice_more}
use Rattle.std.proofs.lemmas.Bool.{cases_Bool, eq-eqb}
use Rattle.ac_prune.specs.Ahead.{load_of, load_in, hosts_of}
use Rattle.ac_prune.specs.Loads.{brought_at}
use Rattle.ac_rules.proofs.Elements.{Among}
use Rattle.std.proofs.Common.{rules}

pub load_less : {X : Type 0} (f g : X → ℕ) (xs : List X) → ((x : X) → f x ≤ g x) → load_of f xs ≤ load_of g xs
load_less f g [] h = omega arith
load_less f g (x ∷ xs) h = let here = h x in let more = load_less f g xs h in omega arith

pub load_plus : {X : Type 0} (f g : X → ℕ) (xs : List X) → load_of (λ x. f x + g x) xs ≡ load_of f xs + load_of g xs
load_plus f g [] = refl
load_plus f g (x ∷ xs) = let more = load_plus f g xs in omega arith

-- what one item puts into a box is among what it puts into all
load_one : (bs : List ℕ) (b m : ℕ) → Among bs b → m ≤ load_of (λ c. if b == c then m else 0) bs
load_one [] b m h = absurd h
load_one (c ∷ bs) b m h = elim h [
  | inl e ↦ let same = eq-eqb b c (sym e) in rw same (omega arith)
  | inr h ↦ let more = load_one bs b m h in omega arith
]

-- what all items weigh is among what the boxes got
pub load_boxes : {X : Type 0} (box amount : X → ℕ) (xs : List X) (bs : List ℕ) → Each (λ x. Among bs (box x)) xs → load_of amount xs ≤ load_of (λ b. load_in box amount xs b) bs
load_boxes box amount [] bs h = omega arith
load_boxes box amount (x ∷ xs) bs h =
    let here = load_one bs (box x) (amount x) h.0 in
    let more = load_boxes box amount xs bs h.1 in
    let both = load_plus (λ b. if box x == b then amount x else 0) (λ b. load_in box amount xs b) bs in
    omega arith

-- Where no box is overfilled, the rooms of the boxes reach what all items weigh.
pub boxes_reach : {X : Type 0} (box amount : X → ℕ) (room : ℕ → ℕ) (xs : List X) (bs : List ℕ) → Each (λ x. Among bs (box x)) xs
    → ((b : ℕ) → load_in box amount xs b ≤ room b) → load_of amount xs ≤ load_of room bs
boxes_reach box amount room xs bs h k =
    let all = load_boxes box amount xs bs h in
    search (rules, load_less)

-- ---- Items one after another

pub load_append : {X : Type 0} (box amount : X → ℕ) (xs ys : List X) (b : ℕ) → load_in box amount (xs ++ ys) b ≡ load_in box amount xs b + load_in box amount ys b
load_append box amount [] ys b = omega arith
load_append box amount (x ∷ xs) ys b = let more = load_append box amount xs ys b in omega arith

-- items of less weight weigh less
pub load_weaker : {X : Type 0} (box f g : X → ℕ) (xs : List X) (b : ℕ) → ((x : X) → f x ≤ g x) → load_in box f xs b ≤ load_in box g xs b
load_weaker box f g [] b h = omega arith
load_weaker box f g (x ∷ xs) b h = let here = h x in let more = load_weaker box f g xs b h in elim (cases_Bool (box x == b)) [ inl e ↦ rw e (omega arith) | inr e ↦ rw e (omega arith) ]

-- where each item has room for a multiple of its weight
pub load_times : {X : Type 0} (box f g : X → ℕ) (a : ℕ) (xs : List X) (b : ℕ) → ((x : X) → f x * a ≤ g x) → load_in box f xs b * a ≤ load_in box g xs b
load_times box f g a [] b h = omega arith
load_times box f g a (x ∷ xs) b h = let here = h x in let more = load_times box f g a xs b h in elim (cases_Bool (box x == b)) [ inl e ↦ rw e (omega arith) | inr e ↦ rw e (omega arith) ]

-- ---- Items one after another in a range

load_none : {X : Type 0} (f : X → ℕ) (b : Bool) (x : X) → load_of f (cond b (x ∷ []) []) ≡ (if b then f x else 0)
load_none f true x = omega arith
load_none f false x = refl

pub load_of_append : {X : Type 0} (f : X → ℕ) (xs ys : List X) → load_of f (xs ++ ys) ≡ load_of f xs + load_of f ys
load_of_append f [] ys = omega arith
load_of_append f (x ∷ xs) ys = let more = load_of_append f xs ys in omega arith

-- one more number that may pass a test
pub load_range : (f : ℕ → ℕ) (test : ℕ → Bool) (i : ℕ) → load_of f (filter test (range_with_len 0 (i + 1))) ≡ load_of f (filter test (range_with_len 0 i)) + (if test i then f i else 0)
load_range f test i = ap (load_of f) (choice_more test i) ∙ (load_of_append f (filter test (range_with_len 0 i)) (cond (test i) (i ∷ []) []) ∙ ap (λ (n : ℕ). load_of f (filter test (range_with_len 0 i)) + n) (load_none f (test i) i))

pub load_times_of : (a : ℕ) (xs : List ℕ) (r : ℕ) → load_in (λ x. x) (λ _. a) xs r ≡ times r xs * a
load_times_of a [] r = omega arith
load_times_of a (x ∷ xs) r = let more = load_times_of a xs r in elim (cases_Bool (x == r)) [ inl e ↦ rw e (grind (arith, more)) | inr e ↦ rw e (omega (arith, more)) ]

-- what a provider adds at a root
pub load_anchors : (all : List Provider) (p r a : ℕ) → r < length all → load_in (λ x. x) (λ _. a) (anchors_of all p) r ≡ (if is_available_at all p r then a else 0)
load_anchors all p r a h = search (rules, load_times_of, times_anchors)

-- one more provider's room, where sums stay at a greatest number
pub load_next : (all : List Provider) (f : ℕ → ℕ) (i r old new most : ℕ) → r < length all → min old most ≡ min (load_of f (filter (λ p. is_available_at all p r) (range_with_len 0 i))) most
    → min new most ≡ min (old + load_in (λ x. x) (λ _. f i) (anchors_of all i) r) most → min new most ≡ min (load_of f (filter (λ p. is_available_at all p r) (range_with_len 0 (i + 1)))) most
load_next all f i r old new most h was is =
    let range = load_range f (λ p. is_available_at all p r) i in
    let anchors = load_anchors all i r (f i) h in
    omega (arith, was, is, range, anchors)

-- all providers
pub load_hosts : (all : List Provider) (f : ℕ → ℕ) (i r x most : ℕ) → i ≡ length all → min x most ≡ min (load_of f (filter (λ p. is_available_at all p r) (range_with_len 0 i))) most
    → min x most ≡ min (load_of f (hosts_of all r)) most
unfolding hosts_of
load_hosts all f i r x most end h = subst (λ (n : ℕ). min x most ≡ min (load_of f (filter (λ p. is_available_at all p r) (range_with_len 0 n))) most) end h

-- ---- What lists of roots bring to a root

pub brought_none : (lists : List (List ℕ)) (sums : List ℕ) (r : ℕ) → ((k : ℕ) → slice_index sums k ≡ 0) → brought_at lists sums r ≡ 0
brought_none [] sums r h = refl
brought_none (list ∷ lists) [] r h = refl
brought_none (list ∷ lists) (s ∷ sums) r h = let here : s ≡ 0 = h 0 in let more = brought_none lists sums r (λ k. h (suc k)) in rw (here, more) (omega arith)

-- the sum of one list is another
pub brought_set : (lists : List (List ℕ)) (sums : List ℕ) (k v r : ℕ) → k < length lists → k < length sums
    → brought_at lists (slice_set sums k v) r + times r (get_or lists k []) * slice_index sums k ≡ brought_at lists sums r + times r (get_or lists k []) * v
brought_set [] sums k v r h i = absurd (omega arith)
brought_set (list ∷ lists) [] k v r h i = absurd (omega arith)
brought_set (list ∷ lists) (s ∷ sums) zero v r h i = omega arith
brought_set (list ∷ lists) (s ∷ sums) (suc k) v r h i = let more = brought_set lists sums k v r (omega arith) (omega arith) in omega (arith, more)

pub brought_one : (lists : List (List ℕ)) (sums : List ℕ) (k r : ℕ) → k < length lists → k < length sums → times r (get_or lists k []) * slice_index sums k ≤ brought_at lists sums r
brought_one [] sums k r h i = absurd (omega arith)
brought_one (list ∷ lists) [] k r h i = absurd (omega arith)
brought_one (list ∷ lists) (s ∷ sums) zero r h i = omega arith
brought_one (list ∷ lists) (s ∷ sums) (suc k) r h i = let more = brought_one lists sums k r (omega arith) (omega arith) in omega (arith, more)

-- one more provider's room, where it has a list
pub listed_next : (all : List Provider) (f : ℕ → ℕ) (i k r old sum most : ℕ) (lists : List (List ℕ)) (sums : List ℕ) → r < length all → k < length lists → k < length sums
    → get_or lists k [] ≡ anchors_of all i → sum ≡ min (slice_index sums k + f i) most
    → min (old + brought_at lists sums r) most ≡ min (load_of f (filter (λ p. is_available_at all p r) (range_with_len 0 i))) most
    → min (old + brought_at lists (slice_set sums k sum) r) most ≡ min (load_of f (filter (λ p. is_available_at all p r) (range_with_len 0 (i + 1)))) most
listed_next all f i k r old sum most lists sums h kl ks same is was = search (rules, load_range, brought_set, brought_one, times_anchors)

-- one list more
pub brought_next : (lists : List (List ℕ)) (sums : List ℕ) (k r : ℕ) → k < length lists → k < length sums
    → brought_at (drop k lists) (drop k sums) r ≡ times r (get_or lists k []) * slice_index sums k + brought_at (drop (k + 1) lists) (drop (k + 1) sums) r
brought_next lists sums k r h i = rw (drop-cons lists k [] h, drop-cons sums k 0 i, add-one) refl

pub lists_next : (lists : List (List ℕ)) (sums roots : List ℕ) (k r old now new most : ℕ) → k < length lists → k < length sums → roots ≡ get_or lists k []
    → min new most ≡ min (now + load_in (λ x. x) (λ _. slice_index sums k) roots r) most → min (now + brought_at (drop k lists) (drop k sums) r) most ≡ old
    → min (new + brought_at (drop (k + 1) lists) (drop (k + 1) sums) r) most ≡ old
lists_next lists sums roots k r old now new most h i same is was =
    let next = brought_next lists sums k r h i in
    let times_here = load_times_of (slice_index sums k) roots r ∙ ap (λ (list : List ℕ). times r list * slice_index sums k) same in
    omega (arith, next, times_here, is, was)
