-- What a provider bears of the slots behind a front, while a list stays open.
use Rattle.std.proofs.Common.{◌≡◌, ℕ, ◌+◌, ◌*◌, ◌/◌, ◌<◌, ◌≤◌, Bool, true, List, [], ◌∷◌, ◌++◌, inl, inr, refl, ap, subst, arith}
use Rattle.std.specs.Prelude.{◌==◌, if◌then◌else◌, min}
use Rattle.std.specs.List.{list_all, AllByRecursion as Each}
use Rattle.std.proofs.lemmas.Bool.{cases_Bool, and_parts, eq-eqb, ne_eqb}
use Rattle.std.proofs.Math.Nat.{le-div_iff_mul-le}
use Rattle.ac_query.specs.Asked.{Asked, Slot, slots_of, is_isolated}
use Rattle.ac_cloud.specs.World.{Provider}
use Rattle.ac_rules.specs.Placed.{Placed, placed, assigned}
use Rattle.ac_rules.specs.Own.{units_fit, traits_fit, aggregates_fit, tree_fits, fits}
use Rattle.ac_prune.specs.Left.{room_on}
use Rattle.ac_rules.specs.Together.{amount_of, sum_on, holds_sums, sums, is_set_apart, are_apart, all_apart, isolate}
use Rattle.ac_rules.specs.Judge.{is_open}
use Rattle.ac_prune.specs.Ahead.{weight_on, later, Bears, left_on, asks_much, asks_own, lone_much, serves}
use Rattle.ac_rules.proofs.Elements.{each_weaker, each_both}
use Rattle.ac_rules.proofs.PlacedLemmas.{placed_append}
use Rattle.ac_rules.proofs.EachSlot.FrontLemmas.{Opens, open_parts, all_weaker, room_less}
use Rattle.ac_rules.proofs.EachSlot.FullLemmas.{full_from}
use Rattle.ac_prune.proofs.Paths.LeftLemmas.{room_enough}
use Rattle.ac_prune.proofs.Roots.CountLemmas.{load_append, load_weaker, load_times}
use Rattle.ac_prune.proofs.Roots.HostLemmas.{all_behind}
use Rattle.std.proofs.Common.{rules}

-- the parts of an open list, front and later slots
pub open_split : (all : List Provider) (asked : Asked) (q v : List ℕ) → is_open all asked (q ++ v) ≡ true → Opens all asked (assigned asked q ++ placed (later asked q) v)
unfolding is_open
open_split all asked q v h = subst (Opens all asked) (placed_append (slots_of asked) q v) (open_parts all asked (assigned asked (q ++ v)) h)

-- ---- Rooms

sum_load : (xs : List Placed) (p : ℕ) (c : List ℕ) → sum_on xs p c ≡ weight_on (λ s. amount_of s.needs c) xs p
sum_load [] p c = refl
sum_load (x ∷ xs) p c = ap (λ n. (if x.provider == p then amount_of x.slot.needs c else 0) + n) (sum_load xs p c)

-- no more is taken of a class than there is room
pub open_room : (all : List Provider) (asked : Asked) (xs : List Placed) → Opens all asked xs → (p : ℕ) (c : List ℕ) → sum_on xs p c ≤ room_on all p c
unfolding sums
open_room all asked xs o p c = search (rules, room_enough, full_from)

pub left_bears : (all : List Provider) (asked : Asked) (q : List ℕ) (c : List ℕ) → Bears all asked q (λ s. amount_of s.needs c) (λ p. left_on all asked q c p)
left_bears all asked q c v o p =
    let xs = assigned asked q in
    let ys = placed (later asked q) v in
    let room = open_room all asked (xs ++ ys) (open_split all asked q v o) p c in
    search (rules, load_append, sum_load)

much_times : (c : List ℕ) (a : ℕ) (x : Placed) → asks_much c a x.slot * a ≤ amount_of x.slot.needs c
much_times c a x = search rules

pub pieces_bear : (all : List Provider) (asked : Asked) (q : List ℕ) (c : List ℕ) (a : ℕ) → 0 < a → Bears all asked q (asks_much c a) (λ p. left_on all asked q c p / a)
pieces_bear all asked q c a some v o p =
    let ys = placed (later asked q) v in
    let left = left_bears all asked q c v o p in
    let times = load_times (λ (x : Placed). x.provider) (λ (x : Placed). asks_much c a x.slot) (λ (x : Placed). amount_of x.slot.needs c) a ys p (much_times c a) in
    (le-div_iff_mul-le some).1 (omega (arith, left, times))

-- ---- Slots that stand apart

-- behind one on a provider there is none on the same
apart_none : (x : Placed) (ys : List Placed) → is_set_apart x.slot ≡ true → list_all (λ y. are_apart x y) ys ≡ true → weight_on asks_own ys x.provider ≡ 0
unfolding are_apart
apart_none x [] s h = refl
apart_none x (y ∷ ys) s h = search (rules, and_parts, apart_none x ys s)

apart_one : (xs : List Placed) (p : ℕ) → all_apart xs ≡ true → weight_on asks_own xs p ≤ 1
apart_one [] p h = omega arith
apart_one (x ∷ xs) p h = search (rules, and_parts, apart_none, eq-eqb, ne_eqb, apart_one xs p)

-- of the later slots at most one has a provider for itself
own_one : (all : List Provider) (asked : Asked) (q v : List ℕ) → is_isolated asked ≡ true → is_open all asked (q ++ v) ≡ true → (p : ℕ) → weight_on asks_own (placed (later asked q) v) p ≤ 1
unfolding isolate
own_one all asked q v e o p =
    let xs = assigned asked q in
    let ys = placed (later asked q) v in
    let apart : all_apart (xs ++ ys) ≡ true = rw e at (open_split all asked q v o).isolate in
    omega (arith, apart_one (xs ++ ys) p apart, load_append (λ (x : Placed). x.provider) (λ (x : Placed). asks_own x.slot) xs ys p)

pub bears_weaker : (all : List Provider) (asked : Asked) (q : List ℕ) (f g : Slot → ℕ) (room : ℕ → ℕ) → ((s : Slot) → f s ≤ g s) → Bears all asked q g room → Bears all asked q f room
bears_weaker all asked q f g room less bears v o p =
    let more = load_weaker (λ (x : Placed). x.provider) (λ (x : Placed). f x.slot) (λ (x : Placed). g x.slot) (placed (later asked q) v) p (λ x. less x.slot) in
    let all = bears v o p in omega (arith, more, all)

-- ---- Providers that serve no later slot

each_true : {X : Type 0} (f : X → Bool) (xs : List X) → list_all f xs ≡ true → Each (λ x. f x ≡ true) xs
each_true f [] h = tt
each_true f (x ∷ xs) h = let both = and_parts (f x) (list_all f xs) h in (both.0, each_true f xs both.1)

-- what a slot asks is among the sum on its provider
each_part : (ys : List Placed) → Each (λ y. (c : List ℕ) → amount_of y.slot.needs c ≤ sum_on ys y.provider c) ys
each_part [] = tt
each_part (y ∷ ys) = search (rules, eq-eqb, each_weaker, each_part ys)

behind_true : {X : Type 0} (f : X → Bool) (xs ys : List X) → list_all f (xs ++ ys) ≡ true → Each (λ y. f y ≡ true) ys
behind_true f xs ys h = each_true f ys (all_behind f xs ys h)

one_serves : (all : List Provider) (asked : Asked) (q : List ℕ) (ys : List Placed) (y : Placed) → ((c : List ℕ) → amount_of y.slot.needs c ≤ sum_on ys y.provider c)
    → units_fit all y ≡ true → traits_fit all y ≡ true → aggregates_fit all y ≡ true → tree_fits all y ≡ true → holds_sums all (assigned asked q ++ ys) y ≡ true
    → serves all asked q y.slot y.provider ≡ true
unfolding serves fits holds_sums
one_serves all asked q ys y part units traits aggregates tree holds_all = search (rules, all_weaker, room_less, load_append, sum_load)

-- each later slot is served by its provider
pub each_serves : (all : List Provider) (asked : Asked) (q v : List ℕ) → is_open all asked (q ++ v) ≡ true → Each (λ y. serves all asked q y.slot y.provider ≡ true) (placed (later asked q) v)
unfolding sums
each_serves all asked q v o =
    let xs = assigned asked q in
    let ys = placed (later asked q) v in
    let parts = open_split all asked q v o in
    let units = behind_true (λ y. units_fit all y) xs ys parts.units in
    let traits = behind_true (λ y. traits_fit all y) xs ys parts.traits in
    let aggregates = behind_true (λ y. aggregates_fit all y) xs ys parts.aggregates in
    let tree = behind_true (λ y. tree_fits all y) xs ys parts.tree in
    let rooms = behind_true (λ y. holds_sums all (xs ++ ys) y) xs ys parts.sums in
    each_weaker _ (λ y. serves all asked q y.slot y.provider ≡ true) ys (λ y h. one_serves all asked q ys y h.0 h.1.0 h.1.1.0 h.1.1.1.0 h.1.1.1.1.0 h.1.1.1.1.1)
    (each_both _ _ ys (each_part ys) (each_both _ _ ys units (each_both _ _ ys traits (each_both _ _ ys aggregates (each_both _ _ ys tree rooms)))))

-- ---- Slots that need a provider for themselves

lone_own : (asked : Asked) (c : List ℕ) (a : ℕ) (s : Slot) → lone_much asked c a s ≤ asks_own s
lone_own asked c a s = search rules

lone_asks : (asked : Asked) (c : List ℕ) (a : ℕ) (s : Slot) → lone_much asked c a s ≤ asks_much c a s
lone_asks asked c a s = search rules

load_nothing : (f : Slot → ℕ) → ((s : Slot) → f s ≡ 0) → (xs : List Placed) (p : ℕ) → weight_on f xs p ≡ 0
load_nothing f h [] p = refl
load_nothing f h (x ∷ xs) p = let here = h x.slot in let more = load_nothing f h xs p in elim (cases_Bool (x.provider == p)) [ inl e ↦ rw e (omega (arith, here, more)) | inr e ↦ rw e (omega (arith, more)) ]

lone_one : (all : List Provider) (asked : Asked) (q : List ℕ) (c : List ℕ) (a : ℕ) (v : List ℕ) → is_open all asked (q ++ v) ≡ true → (p : ℕ) → weight_on (lone_much asked c a) (placed (later asked q) v) p ≤ 1
lone_one all asked q c a v o p = elim (cases_Bool (is_isolated asked)) [
  | inl i ↦ omega (arith, own_one all asked q v i o p, load_weaker (λ (x : Placed). x.provider) (λ (x : Placed). lone_much asked c a x.slot) (λ (x : Placed). asks_own x.slot) (placed (later asked q) v) p (λ x. lone_own asked c a x.slot))
  | inr i ↦ omega (arith, load_nothing (lone_much asked c a) (λ s. rw i refl) (placed (later asked q) v) p)
]

pub lone_bears : (all : List Provider) (asked : Asked) (q : List ℕ) (c : List ℕ) (a : ℕ) → 0 < a → Bears all asked q (lone_much asked c a) (λ p. min (left_on all asked q c p / a) 1)
lone_bears all asked q c a some v o p =
    let one = lone_one all asked q c a v o p in
    let pieces = bears_weaker all asked q (lone_much asked c a) (asks_much c a) (λ p. left_on all asked q c p / a) (lone_asks asked c a) (pieces_bear all asked q c a some) v o p in
    omega (arith, one, pieces)
