-- What the slots behind a front ask, and what the one tree to which it is bound has left.
use Rattle.std.proofs.Common.{inl, inr, ◌≡◌, ◌∙◌, ℕ, ◌+◌, ◌-◌, ◌/◌, ◌<◌, ◌≤◌, zero, suc, Bool, true, false, List, [], ◌∷◌, ◌++◌, length, refl, sym, ap, subst, arith, slice_index}
use Rattle.std.specs.Prelude.{◌^◌, min, drop, take, map, nat_le, if◌then◌else◌}
use Rattle.std.specs.List.{filter, range_with_len, AllByRecursion as Each}
use Rattle.std.specs.Global.{Vec}
use Rattle.std.proofs.lemmas.List.{drop-map}
use Rattle.std.proofs.lemmas.Bool.{cases_eq, and_parts, eq-eqb, ne_eqb, false≢true, false_from_ne_true}
use Rattle.std.proofs.lemmas.List.FromFn.{get_or-range_with_len}
use Rattle.std.proofs.lemmas.List.Folds.{list_all-append}
use Rattle.ac_query.specs.Asked.{Asked, Slot, slots_of}
use Rattle.ac_cloud.specs.World.{Provider, is_available_at, anchors_of}
use Rattle.ac_prune.specs.Left.Accounts.{providers_in, asked_in, texts_in, left_in, Accounts}
use Rattle.ac_prune.specs.Ahead.{load_of, hosts_of, left_on, asks_much, IsHosted}
use Rattle.ac_prune.specs.Trees.Keys.{is_there}
use Rattle.ac_rules.specs.Room.{class_number, IsKnown}
use Rattle.ac_prune.specs.Left.{ask_pair, numbered}
use Rattle.ac_prune.specs.Loads.{pairs_of, is_much}
use Rattle.ac_prune.specs.QuerySearch.{search_of}
use Rattle.ac_prune.specs.Search.{IsDead}
use Rattle.ac_prune.specs.Trees.{IsByTree}
use Rattle.ac_prune.specs.declared.trees.by_tree.Places.{Places}
use Rattle.ac_prune.specs.declared.ledger.Ledger.{Ledger}
use Rattle.ac_prune.specs.declared.ledger.rooms.Ask.{Ask}
use Rattle.ac_prune.proofs.Paths.BearLemmas.{pieces_bear}
use Rattle.ac_prune.proofs.Roots.CountLemmas.{load_range}
use Rattle.ac_prune.proofs.Roots.HostLemmas.{stands}
use Rattle.ac_prune.proofs.Roots.RootLemmas.{reached, asks_load, all_known}
use Rattle.ac_prune.proofs.Roots.TreeLemmas.{all_there, anchor_there, at_there}
use Rattle.std.proofs.lemmas.List.Elements.{Contains-get_or}
use Rattle.std.proofs.Common.{rules}

-- ---- Providers one after another

-- numbers that fail a test add nothing
load_skip : (f : ℕ → ℕ) (test : ℕ → Bool) (a k : ℕ) → ((i : ℕ) → a ≤ i → i < a + k → test i ≡ false)
    → load_of f (filter test (range_with_len 0 (a + k))) ≡ load_of f (filter test (range_with_len 0 a))
load_skip f test a zero none = let e : a + zero ≡ a = omega arith in rw e refl
load_skip f test a (suc k) none =
    let e : a + suc k ≡ (a + k) + 1 = omega arith in
    search (rules, load_range, load_skip f test a k)

pub load_to : (f : ℕ → ℕ) (test : ℕ → Bool) (a b : ℕ) → a ≤ b → ((i : ℕ) → a ≤ i → i < b → test i ≡ false)
    → load_of f (filter test (range_with_len 0 b)) ≡ load_of f (filter test (range_with_len 0 a))
load_to f test a b h none =
    let e : a + (b - a) ≡ b = omega (arith, h) in
    ap (λ (n : ℕ). load_of f (filter test (range_with_len 0 n))) (sym e) ∙ load_skip f test a (b - a) (λ i above less. none i above (omega (arith, less, e)))

-- what is counted up to the next that passes it
pub load_found : (f : ℕ → ℕ) (test : ℕ → Bool) (a b old new most : ℕ) → a ≤ b → ((i : ℕ) → a ≤ i → i < b → test i ≡ false)
    → min (load_of f (filter test (range_with_len 0 a))) most ≤ old → min (old + f b) most ≤ new → min (load_of f (filter test (range_with_len 0 (b + 1)))) most ≤ new
load_found f test a b old new most h none was is = search (rules, load_to, load_range)

-- all that are counted
pub all_counted : (all : List Provider) (f : ℕ → ℕ) (root from next old most : ℕ) → from ≤ next → next ≡ length all → ((i : ℕ) → from ≤ i → i < next → is_available_at all i root ≡ false)
    → min (load_of f (filter (λ p. is_available_at all p root) (range_with_len 0 from))) most ≤ old → min (load_of f (hosts_of all root)) most ≤ old
unfolding hosts_of
all_counted all f root from next old most h end none was = search (rules, load_to)

-- the providers that the next place passes over aren't available at the root
pub none_passed : (all : List Provider) (groves : List ℕ) (trees : Places) (root from next : ℕ) → root < length all → next ≤ trees.count → IsByTree all (range_with_len 0 trees.count) groves trees
    → ((all : List Provider) (choices : List ℕ) → IsByTree all choices groves trees → (r i : ℕ) → is_there (root ∷ []) r ≡ true → r < length all → from ≤ i → i < next → is_available_at all (slice_index choices i) r ≡ false)
    → (i : ℕ) → from ≤ i → i < next → is_available_at all i root ≡ false
none_passed all groves trees root from next low within has passed i above less =
    let same : slice_index (range_with_len 0 trees.count) i ≡ i = get_or-range_with_len 0 trees.count i 0 (omega (arith, less, within)) ∙ omega arith in
    search (rules, eq-eqb)

-- ---- What the later slots ask

each_drop : (P : Slot → Type 0) (xs : List Slot) (n : ℕ) → Each P xs → Each P (drop n xs)
each_drop P xs zero h = h
each_drop P [] (suc n) h = tt
each_drop P (x ∷ xs) (suc n) h = each_drop P xs n h.1

-- how many slots behind a place ask so much
later_much : (l : Ledger) (n a : ℕ) (c : List ℕ) → load_of (is_much (class_number (texts_in l) c) a) (pairs_of (drop n l.asks.items)) ≡ load_of (asks_much c a) (drop n (slots_of (asked_in l)))
later_much l n a c =
    ap (load_of (is_much (class_number (texts_in l) c) a)) (sym (drop-map (λ (v : Vec Ask). map ask_pair v.items) n l.asks.items) ∙ (ap (drop n) l.asked ∙ drop-map (λ (s : Slot). map (numbered (texts_in l)) s.needs) n (slots_of (asked_in l))))
    ∙ asks_load (texts_in l) c (λ m. if nat_le a m then 1 else 0) (drop n (slots_of (asked_in l))) (each_drop (λ s. Each (λ need. IsKnown (texts_in l) need.0) s.needs) (slots_of (asked_in l)) n (all_known l))

-- some of them are no more than all
fewer : (f : List (ℕ × ℕ) → ℕ) (n : ℕ) (xs : List (Vec Ask)) → load_of f (pairs_of (take n xs)) ≤ load_of f (pairs_of xs)
fewer f zero xs = omega arith
fewer f (suc n) [] = omega arith
fewer f (suc n) (x ∷ xs) = let more = fewer f n xs in omega (arith, more)

-- where the pieces that are left at a root are fewer than the later slots ask for, no candidate that goes on from the front stands there
pub pieces_lack : (l : Ledger) (q : List ℕ) (r k a n left most : ℕ) (c : List ℕ) (asks : List (Vec Ask)) → asks ≡ l.asks.items → 0 < a → IsKnown (texts_in l) c → k ≡ class_number (texts_in l) c → Accounts l q
    → min (load_of (λ p. left_in l p k / a) (hosts_of (providers_in l) r)) (2 ^ 64 - 1) ≤ left → left < most → most < 2 ^ 64
    → most ≤ load_of (is_much k a) (pairs_of (take n (drop (length q) asks)))
    → (v : List ℕ) → IsHosted (providers_in l) (asked_in l) r (q ++ v) → ⊥
pieces_lack l q r k a n left most c asks whole some known number accounts is short fits wants v hosted =
    let all = providers_in l in
    let asked = asked_in l in
    let reach = reached all asked q v r (asks_much c a) (λ p. left_on all asked q c p / a) (λ p. left_in l p k / a) (pieces_bear all asked q c a some)
    (λ p low. let rest : left_on all asked q c p ≡ left_in l p k = omega (arith, accounts.left p c low known, ap (left_in l p) number) in omega (arith, ap (λ (m : ℕ). m / a) rest)) hosted in
    search (rules, fewer, later_much)

-- ---- The one tree of a front

-- the roots of a provider, where there is one
one_root : (rs : List ℕ) (r : ℕ) → length rs ≡ 1 → is_there rs r ≡ true → r ≡ slice_index rs 0
one_root [] r one h = absurd (omega (arith, one))
one_root (s ∷ []) r one h = elim (cases_eq s r) [ inl e ↦ sym e | inr e ↦ let other = ne_eqb s r e in absurd (false≢true (rw other at h)) ]
one_root (s ∷ t ∷ rs) r one h = absurd (omega (arith, one))

-- a front is dead where no candidate that goes on from it stands at the one root of one of its providers
pub bound_dead : (all : List Provider) (asked : Asked) (q : List ℕ) (i root : ℕ) → i < length q → length (anchors_of all (slice_index q i)) ≡ 1 → root ≡ slice_index (anchors_of all (slice_index q i)) 0
    → ((v : List ℕ) → IsHosted all asked root (q ++ v) → ⊥) → IsDead (search_of all asked) q
bound_dead all asked q i root here one root_is none v list = false_from_ne_true _ (λ candidate.
    let s = stands all asked (q ++ v) list candidate in
    let parts = and_parts _ _ (sym (list_all-append (λ x. is_available_at all x s.root) q v) ∙ s.available) in
    let available = all_there (λ x. is_available_at all x s.root) q (slice_index q i) parts.0 (at_there q (slice_index q i) (Contains-get_or q i 0 here)) in
    let is : s.root ≡ root = one_root (anchors_of all (slice_index q i)) s.root one (anchor_there all (slice_index q i) s.root s.low available) ∙ sym root_is in
    none v (subst (λ (r : ℕ). IsHosted all asked r (q ++ v)) is s.hosted))
