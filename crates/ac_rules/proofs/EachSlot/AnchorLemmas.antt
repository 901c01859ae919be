-- Roots, and the anchors of one provider of a list.
use Rattle.std.proofs.Common.{◌≡◌, ◌&&◌, ℕ, ◌+◌, ◌<◌, ◌≤◌, zero, suc, Bool, List, [], ◌∷◌, length, None, Some, refl, sym, ap, ◌∙◌, arith, slice_get}
use Rattle.std.specs.List.{list_all, list_any, filter, range_with_len, All, AllByRecursion as Each}
use Rattle.std.proofs.Math.Bool.{and-true}
use Rattle.std.proofs.lemmas.List.Elements.{All-from_recursion}
use Rattle.ac_base.proofs.Sorted.SearchFacts.{any_same}
use Rattle.ac_cloud.specs.World.{Provider, is_available_at, anchors_of}
use Rattle.ac_query.specs.Asked.{Asked, Slot}
use Rattle.ac_rules.specs.Placed.{placed}
use Rattle.ac_rules.specs.Together.{takes_root, hosts_all, anchor}
use Rattle.ac_rules.proofs.Elements.{each_weaker, each_filter}

-- a test of those that pass another
pub any_filter : (f g : ℕ → Bool) (zs : List ℕ) → list_any f (filter g zs) ≡ list_any (λ z. g z && f z) zs
any_filter f g [] = refl
any_filter f g (z ∷ zs) = grind (arith, any_filter f g zs)

pub any_agree : (f g : ℕ → Bool) → ((z : ℕ) → f z ≡ g z) → (zs : List ℕ) → list_any f zs ≡ list_any g zs
any_agree f g same zs = any_same f g same zs

once : (g t h : Bool) → g && (t && (g && h)) ≡ t && (g && h)
once g t h = grind arith

-- each provider of the list is available there
pub hosts_list : (all : List Provider) (ss : List Slot) (t : List ℕ) (r : ℕ) → length t ≤ length ss
    → hosts_all all (placed ss t) r ≡ list_all (λ p. is_available_at all p r) t
unfolding hosts_all
hosts_list all [] [] r h = refl
hosts_list all [] (p ∷ t) r h = absurd (omega arith)
hosts_list all (s ∷ ss) [] r h = refl
hosts_list all (s ∷ ss) (p ∷ t) r h = ap (λ more. is_available_at all p r && more) (hosts_list all ss t r (omega arith))

abbrev pub anchors_list : List Provider → Asked → List ℕ → ℕ → Bool
anchors_list all asked t r = takes_root all asked r && list_all (λ p. is_available_at all p r) t

pub anchor_list : (all : List Provider) (asked : Asked) (ss : List Slot) (t : List ℕ) → length t ≤ length ss
    → anchor all asked (placed ss t) ≡ list_any (λ r. anchors_list all asked t r) (range_with_len 0 (length all))
unfolding anchor
anchor_list all asked ss t h =
    any_agree (λ r. takes_root all asked r && hosts_all all (placed ss t) r) (λ r. anchors_list all asked t r)
    (λ r. ap (λ b. takes_root all asked r && b) (hosts_list all ss t r h)) (range_with_len 0 (length all))

-- no provider asks for any root that is taken
pub anchor_none : (all : List Provider) (asked : Asked) (ss : List Slot) (t : List ℕ) → None ≡ slice_get t 0
    → list_any (λ r. takes_root all asked r) (range_with_len 0 (length all)) ≡ anchor all asked (placed ss t)
anchor_none all asked ss (p ∷ t) h = absurd (let other : None ≡ Some p = h in cc)
anchor_none all asked ss [] h =
    let t : List ℕ = [] in
    let short : length t ≤ length ss = omega arith in
    let none : (r : ℕ) → takes_root all asked r ≡ anchors_list all asked t r = λ r. sym (and-true (takes_root all asked r)) in
    any_agree (λ r. takes_root all asked r) (λ r. anchors_list all asked t r) none (range_with_len 0 (length all)) ∙ sym (anchor_list all asked ss t short)

-- the anchors of the first provider are enough to look at
pub anchor_first : (all : List Provider) (asked : Asked) (ss : List Slot) (t : List ℕ) (p : ℕ) → Some p ≡ slice_get t 0 → length t ≤ length ss
    → list_any (λ r. anchors_list all asked t r) (anchors_of all p) ≡ anchor all asked (placed ss t)
anchor_first all asked ss [] p e h = absurd (let other : Some p ≡ None = e in cc)
anchor_first all asked ss (q ∷ more) p e h =
    let t = q ∷ more in
    let same : q ≡ p = let both : Some p ≡ Some q = e in cc in
    any_filter (λ r. anchors_list all asked t r) (is_available_at all p) (range_with_len 0 (length all))
    ∙ (any_agree (λ r. is_available_at all p r && anchors_list all asked t r) (λ r. anchors_list all asked t r)
    (λ r. rw same (once (is_available_at all p r) (takes_root all asked r) (list_all (λ q. is_available_at all q r) more))) (range_with_len 0 (length all))
    ∙ sym (anchor_list all asked ss t h))

pub each_range : (a n m : ℕ) → a + n ≤ m → Each (λ r. r < m) (range_with_len a n)
each_range a zero m h = tt
each_range a (suc n) m h = (omega arith, each_range (a + 1) n m (omega arith))

-- anchors are providers
pub anchors_within : (all : List Provider) (p : ℕ) → All (λ r. r < length all) (anchors_of all p)
anchors_within all p = All-from_recursion (λ r. r < length all) (anchors_of all p)
    (each_weaker _ (λ r. r < length all) (anchors_of all p) (λ r h. h.1)
    (each_filter (λ r. r < length all) (is_available_at all p) (range_with_len 0 (length all)) (each_range 0 (length all) (length all) (omega arith))))
