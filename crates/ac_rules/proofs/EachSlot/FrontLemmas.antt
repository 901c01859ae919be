-- The front of a candidate is open.
use Rattle.std.proofs.Common.{◌≡◌, ℕ, ◌≤◌, Bool, true, List, [], ◌∷◌, ◌++◌, length, drop, refl, sym, ◌∙◌, subst, arith, Option, None, Some}
use Rattle.std.specs.List.{list_all, list_any, range_with_len}
use Rattle.std.proofs.lemmas.Bool.{and_parts}
use Rattle.std.proofs.lemmas.Bool.Decides.{nat_tests}
use Rattle.std.proofs.lemmas.List.Folds.{list_all-append}
use Rattle.std.proofs.lemmas.List.Elements.{All-weaker}
use Rattle.std.proofs.lemmas.List.Sums.{AllPass-from_list_all, list_all-from_AllPass}
use Rattle.ac_base.specs.Quantities.{InventoryNumbers}
use Rattle.ac_query.specs.Asked.{Asked, slots_of}
use Rattle.ac_cloud.specs.World.{Provider, provider_at, used_of, is_available_at}
use Rattle.ac_rules.specs.Placed.{Placed, placed, assigned}
use Rattle.ac_rules.specs.Own.{inventory_of, units_fit, traits_fit, aggregates_fit, tree_fits}
use Rattle.ac_rules.specs.Together.{sum_on, has_room, holds_sums, sums, are_apart, all_apart, isolate, hosts_all, anchor}
use Rattle.ac_rules.specs.Judge.{tests, all_hold, is_candidate, is_open_at, is_open}
use Rattle.ac_rules.specs.Laws.{PrefixOpen}
use Rattle.ac_rules.proofs.PlacedLemmas.{placed_append}

-- a test that all pass, of a front
all_front : {X : Type 0} (f : X → Bool) (xs ys : List X) → list_all f (xs ++ ys) ≡ true → list_all f xs ≡ true
all_front f xs ys h = (and_parts (list_all f xs) (list_all f ys) (sym (list_all-append f xs ys) ∙ h)).0

-- a weaker test
pub all_weaker : {X : Type 0} (f g : X → Bool) → ((x : X) → f x ≡ true → g x ≡ true) → (xs : List X) → list_all f xs ≡ true → list_all g xs ≡ true
all_weaker f g weaker xs h =
    list_all-from_AllPass g xs (All-weaker (λ x. f x ≡ true) (λ x. g x ≡ true) weaker xs (AllPass-from_list_all f xs h))

pub any_weaker : {X : Type 0} (f g : X → Bool) → ((x : X) → f x ≡ true → g x ≡ true) → (xs : List X) → list_any f xs ≡ true → list_any g xs ≡ true
any_weaker f g weaker [] h = h
any_weaker f g weaker (x ∷ xs) h = grind (arith, weaker x, any_weaker f g weaker xs)

-- less is asked of a front
pub sum_front : (xs ys : List Placed) (p : ℕ) (c : List ℕ) → sum_on xs p c ≤ sum_on (xs ++ ys) p c
sum_front [] ys p c = omega arith
sum_front (x ∷ xs) ys p c = let less = sum_front xs ys p c in omega arith

-- who has room for more has room for less
pub room_less : (inventory : Option InventoryNumbers) (used m n : ℕ) → m ≤ n → has_room inventory used n ≡ true → has_room inventory used m ≡ true
room_less None used m n l h = h
room_less (Some inventory) used m n l h = grind (arith, nat_tests)

holds_front : (all : List Provider) (xs ys : List Placed) (x : Placed) → holds_sums all (xs ++ ys) x ≡ true → holds_sums all xs x ≡ true
unfolding holds_sums
holds_front all xs ys x h =
    let p = provider_at all x.provider in
    all_weaker _ _ (λ (need : List ℕ × ℕ) e. room_less (inventory_of p need.0) (used_of p need.0) (sum_on xs x.provider need.0) (sum_on (xs ++ ys) x.provider need.0) (sum_front xs ys x.provider need.0) e)
    x.slot.needs h

sums_front : (all : List Provider) (xs ys : List Placed) → sums all (xs ++ ys) ≡ true → sums all xs ≡ true
unfolding sums
sums_front all xs ys h = all_weaker _ _ (holds_front all xs ys) xs (all_front (λ x. holds_sums all (xs ++ ys) x) xs ys h)

apart_front : (xs ys : List Placed) → all_apart (xs ++ ys) ≡ true → all_apart xs ≡ true
apart_front [] ys h = refl
apart_front (x ∷ xs) ys h = grind (arith, all_front (λ y. are_apart x y) xs ys, apart_front xs ys)

isolate_front : (asked : Asked) (xs ys : List Placed) → isolate asked (xs ++ ys) ≡ true → isolate asked xs ≡ true
unfolding isolate
isolate_front asked xs ys h = grind (arith, apart_front xs ys)

pub hosts_front : (all : List Provider) (xs ys : List Placed) (r : ℕ) → hosts_all all (xs ++ ys) r ≡ true → hosts_all all xs r ≡ true
unfolding hosts_all
hosts_front all xs ys r h = all_front (λ x. is_available_at all x.provider r) xs ys h

anchor_front : (all : List Provider) (asked : Asked) (xs ys : List Placed) → anchor all asked (xs ++ ys) ≡ true → anchor all asked xs ≡ true
unfolding anchor
anchor_front all asked xs ys h = any_weaker _ _ (λ r k. grind (arith, hosts_front all xs ys r)) (range_with_len 0 (length all)) h

-- the parts of being open
pub record Opens (all : List Provider) (asked : Asked) (xs : List Placed) : Type 0 where
  pub units : list_all (λ x. units_fit all x) xs ≡ true
  pub traits : list_all (λ x. traits_fit all x) xs ≡ true
  pub aggregates : list_all (λ x. aggregates_fit all x) xs ≡ true
  pub tree : list_all (λ x. tree_fits all x) xs ≡ true
  pub sums : sums all xs ≡ true
  pub isolate : isolate asked xs ≡ true
  pub anchor : anchor all asked xs ≡ true

pub open_parts : (all : List Provider) (asked : Asked) (xs : List Placed) → is_open_at all asked xs ≡ true → Opens all asked xs
unfolding is_open_at
open_parts all asked xs h = grind arith

pub opens : (all : List Provider) (asked : Asked) (xs : List Placed) → Opens all asked xs → is_open_at all asked xs ≡ true
unfolding is_open_at
opens all asked xs o = rw (o.units, o.traits, o.aggregates, o.tree, o.sums, o.isolate, o.anchor) refl

pub open_front : (all : List Provider) (asked : Asked) (xs ys : List Placed) → Opens all asked (xs ++ ys) → Opens all asked xs
open_front all asked xs ys o = record {
  units = all_front _ xs ys o.units;
  traits = all_front _ xs ys o.traits;
  aggregates = all_front _ xs ys o.aggregates;
  tree = all_front _ xs ys o.tree;
  sums = sums_front all xs ys o.sums;
  isolate = isolate_front asked xs ys o.isolate;
  anchor = anchor_front all asked xs ys o.anchor;
}

-- a candidate meets what is asked of an open list
pub candidate_opens : (all : List Provider) (asked : Asked) (xs : List Placed) → all_hold (tests all asked xs) ≡ true → Opens all asked xs
unfolding tests
candidate_opens all asked xs h = grind arith

pub prefix_open : PrefixOpen
unfolding is_candidate is_open
prefix_open all asked q v h =
    let whole : Opens all asked (assigned asked (q ++ v)) = candidate_opens all asked (assigned asked (q ++ v)) h in
    opens all asked (assigned asked q)
    (open_front all asked (assigned asked q) (placed (drop (length q) (slots_of asked)) v) (subst (Opens all asked) (placed_append (slots_of asked) q v) whole))
