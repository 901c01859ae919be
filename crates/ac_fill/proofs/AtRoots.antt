-- What providers have together at roots: exact sums.
use Rattle.std.proofs.Common.{◌≡◌, ◌∙◌, ◌<◌, ◌≤◌, ◌+◌, ◌*◌, ◌-◌, ◌^◌, ℕ, Bool, true, false, append-nil, List, [], ◌∷◌, min, length, map, slice_index, refl, ap, arith}
use Rattle.std.specs.List.{filter, range_with_len, sum_by, AllByRecursion as Each}
use Rattle.std.proofs.lemmas.List.Sums.{sum_by-cons, sum_by_push}
use Rattle.std.proofs.lemmas.List.FromFn.{get_or-map-range_with_len, length-range_with_len}
use Rattle.ac_cloud.specs.World.{Provider, is_available_at}
use Rattle.ac_prune.specs.Ahead.{hosts_of, load_of}
use Rattle.ac_prune.specs.Loads.{load_at}
use Rattle.ac_prune.proofs.Roots.RootLemmas.{hosts_low}
use Rattle.ac_prune.proofs.Search.OpenLemmas.{choice_more, filter_few}
use Rattle.ac_fill.specs.Found.{IsSum}

-- ---- sums

load_most : (f : ℕ → ℕ) (most : ℕ) (xs : List ℕ) → ((x : ℕ) → f x ≤ most) → load_of f xs ≤ length xs * most
load_most f most [] h = omega arith
load_most f most (x ∷ xs) h = let here = h x in let more = load_most f most xs h in omega (arith, here, more)

-- a sum of so many numbers of 64 bits is told as it is
pub sum_exact : (all : List Provider) (numbers : List ℕ) (r number : ℕ) → length all < 2 ^ 64 → ((p : ℕ) → slice_index numbers p < 2 ^ 64) → IsSum number (load_at all numbers r) → number ≡ load_at all numbers r
unfolding hosts_of
sum_exact all numbers r number few small is =
    let most = load_most (λ p. slice_index numbers p) (2 ^ 64 - 1) (hosts_of all r) (λ p. let here = small p in omega (arith, here)) in
    let hosts : length (hosts_of all r) ≤ length all = omega (arith, filter_few (λ p. is_available_at all p r) (range_with_len 0 (length all)), length-range_with_len 0 (length all)) in
    omega (arith, is, most, hosts, few)

load_sum : (f g : ℕ → ℕ) (n : ℕ) (xs : List ℕ) → Each (λ p. p < n) xs → ((p : ℕ) → p < n → f p ≡ g p) → load_of f xs ≡ sum_by g xs
load_sum f g n [] low same = refl
load_sum f g n (p ∷ xs) low same = omega (arith, same p low.0, load_sum f g n xs low.1 same, sum_by-cons g p xs)

-- what the providers of a root have together, by the numbers of all
pub load_times : (all : List Provider) (f : ℕ → ℕ) (r : ℕ) → load_at all (map f (range_with_len 0 (length all))) r ≡ sum_by f (hosts_of all r)
load_times all f r =
    load_sum (λ p. slice_index (map f (range_with_len 0 (length all))) p) f (length all) (hosts_of all r) (hosts_low all r)
    (λ p inside. get_or-map-range_with_len f 0 (length all) p p 0 inside (omega arith))

pub sum_map : (f : ℕ → ℕ) (xs : List ℕ) → sum_by (λ n. n) (map f xs) ≡ sum_by f xs
sum_map f [] = refl
sum_map f (x ∷ xs) = omega (arith, sum_by-cons (λ n. n) (f x) (map f xs), sum_by-cons f x xs, sum_map f xs)

-- ---- sums over roots that are marked

sum_here : (f : ℕ → ℕ) (test : ℕ → Bool) (i : ℕ) → test i ≡ true → sum_by f (filter test (range_with_len 0 (i + 1))) ≡ sum_by f (filter test (range_with_len 0 i)) + f i
sum_here f test i h = ap (sum_by f) (choice_more test i) ∙ rw h (sum_by_push f (filter test (range_with_len 0 i)) i)

pub sum_next : (f : ℕ → ℕ) (test : ℕ → Bool) (i old new most : ℕ) → test i ≡ true → min old most ≡ min (sum_by f (filter test (range_with_len 0 i))) most → new ≡ min (old + f i) most
    → min new most ≡ min (sum_by f (filter test (range_with_len 0 (i + 1)))) most
sum_next f test i old new most h was is = omega (arith, was, is, sum_here f test i h)

pub sum_past : (f : ℕ → ℕ) (test : ℕ → Bool) (i : ℕ) → test i ≡ false → sum_by f (filter test (range_with_len 0 (i + 1))) ≡ sum_by f (filter test (range_with_len 0 i))
sum_past f test i h = ap (sum_by f) (choice_more test i) ∙ rw h (ap (sum_by f) (append-nil (filter test (range_with_len 0 i))))
