-- What is found least often, and the classes that roots are short of.
use Rattle.std.proofs.Common.{◌≡◌, ◌∙◌, ◌<◌, ◌≤◌, ◌+◌, ◌==◌, ◌&&◌, ◌++◌, ℕ, suc, Bool, false, List, [], ◌∷◌, Option, None, Some, inl, inr, min, nat_lt, option_map, unwrap_or, length, map, drop, slice_index_or, refl, sym, ap, ap₂, arith, add-one, drop-cons, if◌then◌else◌}
use Rattle.std.specs.List.{filter, flat_map, fold, range_with_len, sum_by, AllByRecursion as Each}
use Rattle.std.proofs.Math.Path.{fun_ext}
use Rattle.std.proofs.lemmas.Bool.{cases_Bool, cases_lt, eq-eqb, le-ltb, lt-ltb, ne_eqb}
use Rattle.std.proofs.lemmas.List.{length-map, map-append}
use Rattle.std.proofs.lemmas.List.FromFn.{get_or-map-range_with_len, length-range_with_len}
use Rattle.std.proofs.lemmas.List.Sums.{sum_by-cons}
use Rattle.ac_cloud.specs.World.{Provider}
use Rattle.ac_prune.specs.Ahead.{hosts_of}
use Rattle.ac_prune.specs.Fitting.{fits_at, fitting}
use Rattle.ac_query.specs.Asked.{Asked, Slot}
use Rattle.ac_rules.specs.Lists.{head_of}
use Rattle.ac_rules.specs.Placed.{no_slot}
use Rattle.ac_rules.specs.Shown.Classes.{with_class, with_classes}
use Rattle.ac_rules.proofs.Elements.{each_weaker, filter_agree}
use Rattle.ac_rules.proofs.EachSlot.AnchorLemmas.{each_range}
use Rattle.ac_fill.specs.Bounds.{Want, count_short, is_of, least, lesser, most_at, most_by_root, most_of, most_together, short_at, shorts, slot_wants, times, wanted_classes, wants}
use Rattle.ac_fill.specs.Found.{AreFound, class_found, class_in, count_at, found_at, found_in, rarer, rarest, shorts_at, times_found, times_in}
use Rattle.ac_fill.specs.declared.found.Found.{Found}
use Rattle.ac_fill.specs.declared.found.Rarest.{Rarest}

-- the least is no more than the first
least_below : (k : ℕ) (ns : List ℕ) → unwrap_or (fold lesser (Some k) ns) 0 ≤ k
least_below k [] = omega arith
least_below k (n ∷ ns) = let more = least_below (min k n) ns in omega (arith, more)

-- the second of two is taken where it is found less often
second_rarer : (first other : List ℕ × ℕ) → other.1 < first.1 → rarer (Some first) other ≡ Some other
second_rarer first other h = rw (lt-ltb other.1 first.1 h) refl

first_rarer : (first other : List ℕ × ℕ) → first.1 ≤ other.1 → rarer (Some first) other ≡ Some first
first_rarer first other h = rw (le-ltb other.1 first.1 h) refl

module _ (all : List Provider) (places : List ℕ) where
  -- how often it is found
  rarest_times : (o : Option (List ℕ × ℕ)) (ws : List Want) → option_map (λ found. found.1) (rarest o all places ws) ≡ fold lesser (option_map (λ found. found.1) o) (map (times all places) ws)
  rarest_times o [] = refl
  rarest_times None (w ∷ ws) = rarest_times (Some (found_at all places w)) ws
  rarest_times (Some first) (w ∷ ws) = elim (cases_lt (times all places w) first.1) [
    | inl less ↦
        ap (λ o. option_map (λ found. found.1) (rarest o all places ws)) (second_rarer first (found_at all places w) less)
        ∙ (rarest_times (Some (found_at all places w)) ws ∙ ap (λ n. fold lesser (Some n) (map (times all places) ws)) (omega (arith, less)))
    | inr more ↦
        ap (λ o. option_map (λ found. found.1) (rarest o all places ws)) (first_rarer first (found_at all places w) more)
        ∙ (rarest_times (Some first) ws ∙ ap (λ n. fold lesser (Some n) (map (times all places) ws)) (omega (arith, more)))
  ]

  -- the least, where there is a first one
  abbrev least_from : ℕ → List Want → ℕ
  least_from n ws = unwrap_or (fold lesser (Some n) (map (times all places) ws)) 0

  -- the first that is found so often
  abbrev first_at : ℕ → List Want → Option (List ℕ × ℕ)
  first_at n ws = option_map (found_at all places) (head_of (filter (λ want. times all places want == n) ws))

  here_at : (n : ℕ) (w : Want) (ws : List Want) → times all places w ≡ n → first_at n (w ∷ ws) ≡ Some (found_at all places w)
  here_at n w ws e = ap (λ b. option_map (found_at all places) (head_of (if b then w ∷ filter (λ want. times all places want == n) ws else filter (λ want. times all places want == n) ws))) (eq-eqb (times all places w) n e)

  past_at : (n : ℕ) (w : Want) (ws : List Want) → n < times all places w → first_at n (w ∷ ws) ≡ first_at n ws
  past_at n w ws h = ap (λ b. option_map (found_at all places) (head_of (if b then w ∷ filter (λ want. times all places want == n) ws else filter (λ want. times all places want == n) ws))) (ne_eqb (times all places w) n (omega (arith, h)))

  rarest_first : (w : Want) (ws : List Want) → rarest (Some (found_at all places w)) all places ws ≡ first_at (least_from (times all places w) ws) (w ∷ ws)
  rarest_first w [] = sym (here_at (times all places w) w [] refl)
  rarest_first w (v ∷ ws) = elim (cases_lt (times all places v) (times all places w)) [
    | inl less ↦
        let low = least_below (times all places v) (map (times all places) ws) in
        let n = least_from (times all places v) ws in
        ap (λ o. rarest o all places ws) (second_rarer (found_at all places w) (found_at all places v) less)
        ∙ (rarest_first v ws ∙ (sym (past_at n w (v ∷ ws) (omega (arith, low, less))) ∙ ap (λ (m : ℕ). first_at (least_from m ws) (w ∷ v ∷ ws)) (omega (arith, less))))
    | inr more ↦
        let low = least_below (times all places w) (map (times all places) ws) in
        let n = least_from (times all places w) ws in
        ap (λ o. rarest o all places ws) (first_rarer (found_at all places w) (found_at all places v) more)
        ∙ (rarest_first w ws ∙ ((elim (cases_lt n (times all places w)) [
          | inl past ↦ past_at n w ws past ∙ (sym (past_at n v ws (omega (arith, past, more))) ∙ sym (past_at n w (v ∷ ws) past))
          | inr here ↦ here_at n w ws (omega (arith, low, here)) ∙ sym (here_at n w (v ∷ ws) (omega (arith, low, here)))
        ]) ∙ ap (λ (m : ℕ). first_at (least_from m ws) (w ∷ v ∷ ws)) (omega (arith, more))))
  ]

-- what is found least often of all that is wanted is the bound
pub most_found : (all : List Provider) (places : List ℕ) (asked : Asked) → unwrap_or (option_map (λ found. found.1) (rarest None all places (wants asked))) 0 ≡ most_of all places asked
unfolding most_of
most_found all places asked = ap (λ o. unwrap_or o 0) (rarest_times all places None (wants asked))

first_found : (all : List Provider) (places : List ℕ) (ws : List Want) → rarest None all places ws ≡ first_at all places (least (map (times all places) ws)) ws
first_found all places [] = refl
first_found all places (w ∷ ws) = rarest_first all places w ws

-- ---- classes

-- classes that are gathered one after another
pub classes_append : (classes : List (List ℕ)) (xs ys : List (List ℕ × ℕ)) → with_classes classes (xs ++ ys) ≡ with_classes (with_classes classes xs) ys
classes_append classes [] ys = refl
classes_append classes (x ∷ xs) ys = classes_append (with_class classes x.0) xs ys

-- ---- the classes that are wanted

classes_next : (classes : List (List ℕ)) (slot : Slot) (slots : List Slot)
    → with_classes classes (map (λ want. want.need) (flat_map slot_wants (slot ∷ slots))) ≡ with_classes (with_classes classes (map (λ want. want.need) (slot_wants slot))) (map (λ want. want.need) (flat_map slot_wants slots))
classes_next classes slot slots =
    ap (with_classes classes) (map-append (λ want. want.need) (slot_wants slot) (flat_map slot_wants slots))
    ∙ classes_append classes (map (λ want. want.need) (slot_wants slot)) (map (λ want. want.need) (flat_map slot_wants slots))

pub classes_more : (classes : List (List ℕ)) (slots : List Slot) (s : ℕ) → s < length slots
    → with_classes classes (map (λ want. want.need) (flat_map slot_wants (drop s slots))) ≡ with_classes (with_classes classes (map (λ want. want.need) (slot_wants (slice_index_or slots s no_slot)))) (map (λ want. want.need) (flat_map slot_wants (drop (s + 1) slots)))
classes_more classes slots s h = rw (drop-cons slots s no_slot h, add-one) (classes_next classes (slice_index_or slots s no_slot) (drop (suc s) slots))

-- ---- what is found at roots that fit

pub fitting_size : (all : List Provider) (asked : Asked) → length (fitting all asked) ≡ length all
fitting_size all asked = length-map (range_with_len 0 (length all)) (fits_at all asked) ∙ length-range_with_len 0 (length all)

fitting_at : (all : List Provider) (asked : Asked) (r : ℕ) → r < length all → slice_index_or (fitting all asked) r false ≡ fits_at all asked r
fitting_at all asked r h = get_or-map-range_with_len (fits_at all asked) 0 (length all) r r false h (omega arith)

shown_times : (o : Option Found) → times_found o ≡ unwrap_or (option_map (λ found. found.1) (option_map found_in o)) 0
shown_times None = refl
shown_times (Some f) = refl

shown_class : (o : Option Found) → class_found o ≡ option_map (λ found. found.0) (option_map found_in o)
shown_class None = refl
shown_class (Some f) = refl

class_at : (all : List Provider) (places : List ℕ) (o : Option Want) → option_map (λ found. found.0) (option_map (found_at all places) o) ≡ option_map (λ want. want.need.0) o
class_at all places None = refl
class_at all places (Some w) = refl

-- the first class that is found least often is short
short_found : (all : List Provider) (asked : Asked) (r : ℕ) → option_map (λ found. found.0) (rarest None all (hosts_of all r) (wants asked)) ≡ short_at all asked r
unfolding short_at most_of
short_found all asked r =
    ap (option_map (λ found. found.0)) (first_found all (hosts_of all r) (wants asked))
    ∙ class_at all (hosts_of all r) (head_of (filter (λ want. times all (hosts_of all r) want == least (map (times all (hosts_of all r)) (wants asked))) (wants asked)))

sum_same : (f g : ℕ → ℕ) (a b : ℕ → Bool) (xs : List ℕ) → Each (λ r. (f r ≡ g r) × (a r ≡ b r)) xs → sum_by f (filter a xs) ≡ sum_by g (filter b xs)
sum_same f g a b [] each = refl
sum_same f g a b (x ∷ xs) (here, later) = rw here.1 (elim (cases_Bool (b x)) [
  | inl e ↦ rw e (omega (arith, here.0, sum_same f g a b xs later, sum_by-cons f x (filter a xs), sum_by-cons g x (filter b xs)))
  | inr e ↦ rw e (sum_same f g a b xs later)
])

module _ (all : List Provider) (asked : Asked) (found : Rarest) (are : AreFound all asked found) where
  -- how often, and of which class
  pub together_told : times_found found.together ≡ most_together all asked
  together_told = shown_times found.together ∙ (ap (λ o. unwrap_or (option_map (λ found. found.1) o) 0) are.together ∙ most_found all (range_with_len 0 (length all)) asked)

  times_told : (r : ℕ) → r < length all → times_in found.roots.items r ≡ most_at all asked r
  times_told r h =
      shown_times (slice_index_or found.roots.items r None)
      ∙ (ap (λ o. unwrap_or (option_map (λ found. found.1) o) 0) (are.roots r h) ∙ most_found all (hosts_of all r) asked)

  class_told : (r : ℕ) → r < length all → class_in found.roots.items r ≡ short_at all asked r
  class_told r h = shown_class (slice_index_or found.roots.items r None) ∙ (ap (option_map (λ found. found.0)) (are.roots r h) ∙ short_found all asked r)

  pub sum_told : sum_by (times_in found.roots.items) (filter (λ r. slice_index_or (fitting all asked) r false) (range_with_len 0 (length (fitting all asked)))) ≡ most_by_root all asked
  unfolding most_by_root
  sum_told =
      rw (fitting_size all asked)
      (sum_same (times_in found.roots.items) (most_at all asked) (λ r. slice_index_or (fitting all asked) r false) (fits_at all asked) (range_with_len 0 (length all))
      (each_weaker (λ r. r < length all) _ (range_with_len 0 (length all)) (λ r h. (times_told r h, fitting_at all asked r h)) (each_range 0 (length all) (length all) (omega arith))))

  count_told : (class : List ℕ) → count_at found.roots.items (fitting all asked) class ≡ count_short all asked class
  count_told class =
      rw (fitting_size all asked)
      (ap length (filter_agree (λ r. slice_index_or (fitting all asked) r false && is_of class (class_in found.roots.items r)) (λ r. fits_at all asked r && is_of class (short_at all asked r)) (range_with_len 0 (length all))
      (each_weaker (λ r. r < length all) _ (range_with_len 0 (length all)) (λ r h. ap₂ (λ a b. a && b) (fitting_at all asked r h) (ap (is_of class) (class_told r h))) (each_range 0 (length all) (length all) (omega arith)))))

  pub shorts_told : shorts_at found.roots.items (fitting all asked) (wanted_classes asked) ≡ shorts all asked
  unfolding shorts
  shorts_told = ap (λ (count : List ℕ → ℕ). filter (λ short. nat_lt 0 short.1) (map (λ class. (class, count class)) (wanted_classes asked))) (fun_ext count_told)
