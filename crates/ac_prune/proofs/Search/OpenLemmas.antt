-- The search of a query is one that a walk goes through.
use Rattle.std.proofs.Common.{◌≡◌, ℕ, ◌+◌, ◌<◌, ◌≤◌, zero, suc, Bool, true, false, ◌&&◌, List, [], ◌∷◌, ◌++◌, inl, inr, length, map, get_or, refl, sym, ap, ◌∙◌, subst, arith, slice_index_or, slice_index, append-nil}
use Rattle.std.specs.List.{filter, list_all, range_with_len, AllPairs, AllByRecursion as Each}
use Rattle.std.proofs.lemmas.Bool.{cases_Bool, and_parts, and_from, eq-eqb}
use Rattle.std.proofs.lemmas.Slice.Eq.{bytes_eq-Decides}
use Rattle.std.proofs.lemmas.List.{get_or-map, length-map, map-append, drop_more}
use Rattle.std.proofs.lemmas.List.Kept.{AllPairs-filter}
use Rattle.std.proofs.lemmas.List.Folds.{list_all-append}
use Rattle.std.proofs.lemmas.List.FromFn.{length-range_with_len, get_or-range_with_len}
use Rattle.std.proofs.lemmas.List.Elements.{filter-append}
use Rattle.std.proofs.Common.{cond, add-one}
use Rattle.ac_query.specs.Asked.{Asked, Slot, slots_of}
use Rattle.ac_cloud.specs.World.{Provider, provider_at}
use Rattle.ac_rules.specs.Placed.{Placed, placed, placed_at, slot_at, no_slot, assigned}
use Rattle.ac_rules.specs.Together.{amount_of, sum_on, holds, holds_sums, sums, isolate, anchor}
use Rattle.ac_rules.specs.Judge.{tests, is_candidate, is_open, is_open_at}
use Rattle.ac_prune.specs.Search.{choices_at}
use Rattle.ac_rules.specs.Own.{fits}
use Rattle.ac_prune.specs.QuerySearch.{has_room_alone, choice_of, completes, search_of}
use Rattle.ac_rules.proofs.Elements.{Among, each_filter, each_weaker, each_all, among_filter, filter_none}
use Rattle.ac_rules.proofs.Lists.ListLemmas.{among_range}
use Rattle.ac_rules.proofs.EachSlot.AnchorLemmas.{each_range}
use Rattle.ac_rules.proofs.PlacedLemmas.{placed_append, placed_none}
use Rattle.ac_rules.proofs.EachSlot.FrontLemmas.{all_weaker, room_less, Opens, open_parts, opens, open_front, prefix_open}
use Rattle.ac_prune.proofs.Search.SoughtLemmas.{IsSearch}
use Rattle.std.proofs.Common.{rules}

-- a slot at a depth, and its choices
pub choices_here : (all : List Provider) (asked : Asked) (d : ℕ) → d < length (slots_of asked) → choices_at (search_of all asked) d ≡ choice_of all asked (slot_at asked d)
unfolding choices_at
choices_here all asked d h = get_or-map (λ slot. choice_of all asked slot) (slots_of asked) d no_slot [] h

-- a provider for a slot that it fits and has room for, where anything is open
abbrev test : List Provider → Asked → Slot → ℕ → Bool
test all asked slot p = is_open all asked [] && (fits all (record { slot = slot; provider = p }) && has_room_alone all (record { slot = slot; provider = p }))

rising_range : (n : ℕ) → AllPairs (λ x y. x < y) (range_with_len 0 n)
rising_range n i j d h k = search (rules, length-range_with_len, get_or-range_with_len)

rising_choice : (all : List Provider) (asked : Asked) (slot : Slot) → AllPairs (λ x y. x < y) (choice_of all asked slot)
unfolding choice_of
rising_choice all asked slot = AllPairs-filter (λ x y. x < y) (test all asked slot) (range_with_len 0 (length all)) (rising_range (length all))

pub each_choice : (all : List Provider) (asked : Asked) (slot : Slot)
    → Each (λ p. ((is_open all asked [] && fits all (record { slot = slot; provider = p })) ≡ true) × (p < length all)) (choice_of all asked slot)
unfolding choice_of
each_choice all asked slot = search (rules, each_weaker, each_filter, each_range, and_parts, and_from)

pub filter_few : {X : Type 0} (f : X → Bool) (xs : List X) → length (filter f xs) ≤ length xs
filter_few f [] = omega arith
filter_few f (x ∷ xs) = let more = filter_few f xs in elim (cases_Bool (f x)) [ inl e ↦ rw e (omega arith) | inr e ↦ rw e (omega arith) ]

pub few_choices : (all : List Provider) (asked : Asked) (slot : Slot) → length (choice_of all asked slot) ≤ length all
unfolding choice_of
few_choices all asked slot = let size = length-range_with_len 0 (length all) in let less = filter_few (test all asked slot) (range_with_len 0 (length all)) in omega arith

pub among_choice : (all : List Provider) (asked : Asked) (slot : Slot) (p : ℕ) → p < length all → is_open all asked [] ≡ true → fits all (record { slot = slot; provider = p }) ≡ true
    → has_room_alone all (record { slot = slot; provider = p }) ≡ true → Among (choice_of all asked slot) p
unfolding choice_of
among_choice all asked slot p h o f room = search (rules, among_filter, among_range, and_from)

-- where the empty list isn't open, a slot has no choices
choice_none : (all : List Provider) (asked : Asked) (slot : Slot) → is_open all asked [] ≡ false → choice_of all asked slot ≡ []
unfolding choice_of
choice_none all asked slot e = filter_none (test all asked slot) (range_with_len 0 (length all)) (each_all (λ p. test all asked slot p ≡ false) (range_with_len 0 (length all)) (λ p. rw e refl))

-- a front of an open list is open
pub front_open : (all : List Provider) (asked : Asked) (q w : List ℕ) → is_open all asked (q ++ w) ≡ true → is_open all asked q ≡ true
unfolding is_open
front_open all asked q w h = search (rules, opens, open_front, placed_append, open_parts)

-- one more provider is placed in the next slot
pub placed_next : (asked : Asked) (q : List ℕ) (p : ℕ) → length q < length (slots_of asked) → assigned asked (q ++ p ∷ []) ≡ assigned asked q ++ placed_at asked (length q) p ∷ []
placed_next asked q p h = search (rules, placed_append, drop_more, placed_none)

all_last : {X : Type 0} (f : X → Bool) (xs : List X) (x : X) → list_all f (xs ++ x ∷ []) ≡ true → f x ≡ true
all_last f xs x h = (and_parts (f x) (list_all f []) (and_parts (list_all f xs) (list_all f (x ∷ [])) (sym (list_all-append f xs (x ∷ [])) ∙ h)).1).0

-- the last provider of an open list fits its slot
pub open_fits : (all : List Provider) (asked : Asked) (q : List ℕ) (p : ℕ) → length q < length (slots_of asked) → is_open all asked (q ++ p ∷ []) ≡ true → fits all (placed_at asked (length q) p) ≡ true
unfolding is_open fits
open_fits all asked q p h o =
    let xs = assigned asked q in
    let x = placed_at asked (length q) p in
    let parts : Opens all asked (xs ++ x ∷ []) = subst (Opens all asked) (placed_next asked q p h) (open_parts all asked (assigned asked (q ++ p ∷ [])) o) in
    search (rules, all_last)

-- each amount is among what all of them ask of its class
pub amounts_among : (needs : List (List ℕ × ℕ)) → Each (λ need. need.1 ≤ amount_of needs need.0) needs
amounts_among [] = tt
amounts_among (n ∷ needs) = search (rules, bytes_eq-Decides, each_weaker, amounts_among needs)

-- what the last slot asks is among what all ask of its provider
sum_last : (xs : List Placed) (x : Placed) (c : List ℕ) → amount_of x.slot.needs c ≤ sum_on (xs ++ x ∷ []) x.provider c
sum_last [] x c = let same = eq-eqb x.provider x.provider refl in rw same (omega arith)
sum_last (y ∷ xs) x c = let more = sum_last xs x c in omega (arith, more)

-- who has room for sums has room for amounts that are no greater
pub room_each : (all : List Provider) (p : ℕ) (sum : List ℕ → ℕ) (ns : List (List ℕ × ℕ)) → Each (λ need. need.1 ≤ sum need.0) ns
    → list_all (λ (need : List ℕ × ℕ). holds (provider_at all p) need.0 (sum need.0)) ns ≡ true → list_all (λ (need : List ℕ × ℕ). holds (provider_at all p) need.0 need.1) ns ≡ true
room_each all p sum [] less h = refl
room_each all p sum (n ∷ ns) less h = search (rules, and_parts, and_from, room_less, room_each all p sum ns less.1)

-- and has room for what its slot alone asks
pub open_room_alone : (all : List Provider) (asked : Asked) (q : List ℕ) (p : ℕ) → length q < length (slots_of asked) → is_open all asked (q ++ p ∷ []) ≡ true → has_room_alone all (placed_at asked (length q) p) ≡ true
unfolding is_open has_room_alone sums holds_sums
open_room_alone all asked q p h o =
    let xs = assigned asked q in
    let x = placed_at asked (length q) p in
    let parts : Opens all asked (xs ++ x ∷ []) = subst (Opens all asked) (placed_next asked q p h) (open_parts all asked (assigned asked (q ++ p ∷ [])) o) in
    let last = all_last (λ y. holds_sums all (xs ++ x ∷ []) y) xs x parts.sums in
    room_each all p (λ c. sum_on (xs ++ x ∷ []) p c) x.slot.needs
    (each_weaker (λ need. need.1 ≤ amount_of x.slot.needs need.0) (λ need. need.1 ≤ sum_on (xs ++ x ∷ []) p need.0) x.slot.needs (λ need less. let all = sum_last xs x need.0 in omega (arith, less, all)) (amounts_among x.slot.needs))
    last

pub range_with_len_more : (a n : ℕ) → range_with_len a (n + 1) ≡ range_with_len a n ++ (a + n) ∷ []
range_with_len_more a zero = ap (λ (i : ℕ). i ∷ []) (omega arith)
range_with_len_more a (suc n) = rw add-one (ap (λ (l : List ℕ). a ∷ l) (ap (range_with_len (a + 1)) (sym (add-one n)) ∙ (range_with_len_more (a + 1) n ∙ ap (λ (i : ℕ). range_with_len (a + 1) n ++ i ∷ []) (omega arith))))

pub map_range_more : {X : Type 0} (f : ℕ → X) (i : ℕ) → map f (range_with_len 0 (i + 1)) ≡ map f (range_with_len 0 i) ++ f i ∷ []
map_range_more f i = search (rules, range_with_len_more, map-append)

-- one more provider of which it is asked
pub choice_more : (f : ℕ → Bool) (i : ℕ) → filter f (range_with_len 0 (i + 1)) ≡ filter f (range_with_len 0 i) ++ cond (f i) (i ∷ []) []
choice_more f i = rw (range_with_len_more 0 i, filter-append f (range_with_len 0 i) ((0 + i) ∷ [])) (ap (λ (p : ℕ). filter f (range_with_len 0 i) ++ cond (f p) (p ∷ []) []) (omega arith))

begins : (all : List Provider) (asked : Asked) → 0 < length (choices_at (search_of all asked) 0) → is_open all asked [] ≡ true
unfolding choices_at
begins all asked h = elim (cases_Bool (is_open all asked [])) [
  | inl e ↦ e
  | inr e ↦ absurd (first (slots_of asked) e h)
]
  where
    first : (ss : List Slot) → is_open all asked [] ≡ false → 0 < length (get_or (map (λ slot. choice_of all asked slot) ss) 0 []) → ⊥
    first [] e l = omega arith
    first (s ∷ ss) e l = omega (arith, ap length (choice_none all asked s e))

pub is_search : (all : List Provider) (asked : Asked) → IsSearch (search_of all asked)
is_search all asked = record {
  slots = length-map (slots_of asked) (λ slot. choice_of all asked slot);
  rising = λ d h. subst (AllPairs (λ x y. x < y)) (sym (choices_here all asked d h)) (rising_choice all asked (slot_at asked d));
  low = λ d h. subst (Each (λ p. p < length all)) (sym (choices_here all asked d h))
      (each_weaker _ (λ p. p < length all) (choice_of all asked (slot_at asked d)) (λ p q. q.1) (each_choice all asked (slot_at asked d)));
  few = λ d h. subst (λ (xs : List ℕ). length xs ≤ length all) (sym (choices_here all asked d h)) (few_choices all asked (slot_at asked d));
  among = λ q r h low o. subst (λ (xs : List ℕ). Among xs r) (sym (choices_here all asked (length q) h))
      (among_choice all asked (slot_at asked (length q)) r low (front_open all asked [] (q ++ r ∷ []) o) (open_fits all asked q r h o) (open_room_alone all asked q r h o));
  front = front_open all asked;
  wanted = λ t h. prefix_open all asked t [] (subst (λ (u : List ℕ). is_candidate all asked u ≡ true) (sym (append-nil t)) h);
  begins = begins all asked;
}

-- where each provider fits its slot, a list is open exactly where the rules of all slots together hold
pub open_together : (all : List Provider) (asked : Asked) (list : List ℕ) → list_all (λ x. fits all x) (assigned asked list) ≡ true
    → is_open all asked list ≡ (sums all (assigned asked list) && (isolate asked (assigned asked list) && anchor all asked (assigned asked list)))
unfolding is_open is_open_at fits
open_together all asked list h = search (rules, all_weaker)

-- a candidate is an open list that is complete
pub candidate_completes : (all : List Provider) (asked : Asked) (list : List ℕ) → is_candidate all asked list ≡ is_open all asked list && completes all asked list
unfolding is_candidate is_open is_open_at tests
candidate_completes all asked list = grind arith

-- each provider fits its slot
pub fits_placed : (all : List Provider) (ss : List Slot) (list : List ℕ) → length list ≤ length ss
    → ((i : ℕ) → i < length list → fits all (record { slot = slice_index_or ss i no_slot; provider = slice_index list i }) ≡ true)
    → list_all (λ x. fits all x) (placed ss list) ≡ true
fits_placed all [] list h f = refl
fits_placed all (s ∷ ss) [] h f = refl
fits_placed all (s ∷ ss) (p ∷ list) h f = and_from _ _ (f 0 (omega arith)) (fits_placed all ss list (omega arith) (λ i l. f (suc i) (omega arith)))

-- nothing is asked of an empty list's slots
pub fits_none : (all : List Provider) (asked : Asked) (list : List ℕ) → list ≡ [] → list_all (λ x. fits all x) (assigned asked list) ≡ true
fits_none all asked list e = rw (e, placed_none (slots_of asked)) refl
