-- Lists that the hosts of their groups and their sums tell apart.
use Rattle.std.proofs.lemmas.Grind.{common_steps}
use Rattle.std.proofs.Common.{◌≡◌, ℕ, ◌+◌, ◌<◌, ◌≤◌, List, [], ◌∷◌, ◌++◌, map, drop, length, refl, sym, ap, ap₂, ◌∙◌, Bool, true, false, Option, Some, None, nat_cmp, if◌then◌else◌, arith}
use Rattle.std.specs.Prelude.{nat_eq, bytes_eq}
use Rattle.std.specs.List.{AllByRecursion}
use Rattle.std.proofs.lemmas.Bool.{eqb-true, eq-eqb, ne_eqb}
use Rattle.ac_query.specs.Asked.{Group, Slot, slots_from, class_slot}
use Rattle.ac_rules.specs.Placed.{Placed, placed}
use Rattle.ac_rules.proofs.PlacedLemmas.{placed_none}
use Rattle.ac_rules.specs.Together.{amount_of, sum_on}
use Rattle.ac_base.specs.Sorted.{rising}
use Rattle.ac_query.specs.Laws.InOrder.{AreApart, AreSuffixed}
use Rattle.ac_report.specs.Trees.{hosts}
use Rattle.ac_base.proofs.Small.{eq_turned}
use Rattle.ac_report.proofs.Trees.Gathering.{bytes_eq_refl}

-- the groups from place i on have slots of their own places
hosts_before : (i k : ℕ) (gs : List (Option (List ℕ) × Group)) (t : List ℕ) → AreSuffixed gs → k < i → hosts (placed (slots_from i gs) t) k ≡ []
hosts_before i k [] t s h = refl
hosts_before i k ((None, g) ∷ gs) t s h = let no_suffix : false ≡ true = s.0 in absurd (cc)
hosts_before i k ((Some n, g) ∷ gs) [] s h = refl
hosts_before i k ((Some n, g) ∷ gs) (p ∷ t) s h = rw (ne_eqb i k (λ e. omega (arith, e, h))) (hosts_before (i + 1) k gs t s.1 (omega arith))

head_host : (i : ℕ) (n : List ℕ) (g : Group) (gs : List (Option (List ℕ) × Group)) (p : ℕ) (t : List ℕ) → AreSuffixed gs → hosts (placed (slots_from i ((Some n, g) ∷ gs)) (p ∷ t)) i ≡ p ∷ []
head_host i n g gs p t s = rw (eq-eqb i i refl) (ap (λ l. p ∷ l) (hosts_before (i + 1) i gs t s (omega arith)))

later_host : (i k : ℕ) (n : List ℕ) (g : Group) (gs : List (Option (List ℕ) × Group)) (p : ℕ) (t : List ℕ) → i < k → hosts (placed (slots_from i ((Some n, g) ∷ gs)) (p ∷ t)) k ≡ hosts (placed (slots_from (i + 1) gs) t) k
later_host i k n g gs p t h = rw (ne_eqb i k (λ e. omega (arith, e, h))) refl

-- suffixed groups have one provider each
pub suffixed_agree : (i : ℕ) (gs : List (Option (List ℕ) × Group)) (t u : List ℕ) → AreSuffixed gs → length t ≡ length (slots_from i gs) → length u ≡ length (slots_from i gs)
    → ((k : ℕ) → i ≤ k → k < i + length gs → rising nat_cmp (hosts (placed (slots_from i gs) t) k) ≡ rising nat_cmp (hosts (placed (slots_from i gs) u) k)) → t ≡ u
suffixed_agree i [] [] [] s l m h = refl
suffixed_agree i [] [] (q ∷ u) s l m h = absurd (omega (arith, m))
suffixed_agree i [] (p ∷ t) u s l m h = absurd (omega (arith, l))
suffixed_agree i ((None, g) ∷ gs) t u s l m h = let no_suffix : false ≡ true = s.0 in absurd (cc)
suffixed_agree i ((Some n, g) ∷ gs) [] u s l m h = absurd (omega (arith, l))
suffixed_agree i ((Some n, g) ∷ gs) (p ∷ t) [] s l m h = absurd (omega (arith, m))
suffixed_agree i ((Some n, g) ∷ gs) (p ∷ t) (q ∷ u) s l m h =
    let here : p ∷ [] ≡ q ∷ [] =
    sym (ap (rising nat_cmp) (head_host i n g gs p t s.1)) ∙ h i (omega arith) (omega arith) ∙ ap (rising nat_cmp) (head_host i n g gs q u s.1) in
    let first : p ≡ q = cc in
    let more : t ≡ u = suffixed_agree (i + 1) gs t u s.1 (omega (arith, l)) (omega (arith, m))
    (λ k low below. sym (ap (rising nat_cmp) (later_host i k n g gs p t (omega (arith, low)))) ∙ h k (omega (arith, low)) (omega (arith, below)) ∙ ap (rising nat_cmp) (later_host i k n g gs q u (omega (arith, low)))) in
    ap (λ x. x ∷ t) first ∙ ap (λ l. q ∷ l) more

-- ---- the slots of single classes, and then others

module _ (g : Group) (ss : List Slot) where
  abbrev pub with_classes : List (List ℕ × ℕ) → List ℕ → List Placed
  with_classes needs t = placed (map (class_slot 0 g) needs ++ ss) t

  -- they are of the first group
  pub classes_hosts : (needs : List (List ℕ × ℕ)) (t : List ℕ) (k : ℕ) → 0 < k → hosts (with_classes needs t) k ≡ hosts (placed ss (drop (length needs) t)) k
  classes_hosts [] t k h = refl
  classes_hosts (need ∷ needs) [] k h = rw placed_none refl
  classes_hosts (need ∷ needs) (p ∷ t) k h = rw (ne_eqb 0 k (λ e. omega (arith, e, h))) (classes_hosts needs t k h)

  -- and ask nothing of other classes
  sum_absent : (needs : List (List ℕ × ℕ)) (t : List ℕ) (ix : ℕ) (c : List ℕ) → AllByRecursion (λ s. bytes_eq c s ≡ false) (map (λ need. need.0) needs) → sum_on (with_classes needs t) ix c ≡ sum_on (placed ss (drop (length needs) t)) ix c
  sum_absent [] t ix c h = refl
  sum_absent (need ∷ needs) [] ix c h = rw placed_none refl
  sum_absent (need ∷ needs) (p ∷ t) ix c h = grind (arith, common_steps, eq_turned, sum_absent needs t ix c h.1)

  -- the head's share of its own class
  head_sum : (need : List ℕ × ℕ) (needs : List (List ℕ × ℕ)) (p : ℕ) (t : List ℕ) (ix : ℕ) → AllByRecursion (λ s. bytes_eq need.0 s ≡ false) (map (λ need. need.0) needs)
      → sum_on (with_classes (need ∷ needs) (p ∷ t)) ix need.0 ≡ (if nat_eq p ix then need.1 else 0) + sum_on (placed ss (drop (length needs) t)) ix need.0
  head_sum need needs p t ix h = grind (arith, common_steps, bytes_eq_refl, sum_absent)

  -- sums tell their providers
  pub classes_agree : (needs : List (List ℕ × ℕ)) (t u : List ℕ) → AllByRecursion (λ need. 0 < need.1) needs → AreApart (map (λ need. need.0) needs) → length needs ≤ length t → length needs ≤ length u
      → drop (length needs) t ≡ drop (length needs) u → (n : ℕ) → AllByRecursion (λ p. p < n) t → ((ix : ℕ) (c : List ℕ) → ix < n → sum_on (with_classes needs t) ix c ≡ sum_on (with_classes needs u) ix c) → t ≡ u
  classes_agree [] t u pos once l m rest n b h = rest
  classes_agree (need ∷ needs) [] u pos once l m rest n b h = absurd (omega (arith, l))
  classes_agree (need ∷ needs) (p ∷ t) [] pos once l m rest n b h = absurd (omega (arith, m))
  classes_agree (need ∷ needs) (p ∷ t) (q ∷ u) pos once l m rest n b h =
      let same = ap (λ l. sum_on (placed ss l) p need.0) rest in
      let mine = sym (head_sum need needs p t p once.0) ∙ h p need.0 b.0 ∙ head_sum need needs q u p once.0 in
      let first : q ≡ p = by (nat_eq q p) refl (ap (λ b. if b then need.1 else 0) (sym (eq-eqb p p refl))) mine same in
      let more : t ≡ u = classes_agree needs t u pos.1 once.1 (omega (arith, l)) (omega (arith, m)) rest n b.1
      (λ ix c low. same_rest (if nat_eq p ix then amount_of (need ∷ []) c else 0) (if nat_eq q ix then amount_of (need ∷ []) c else 0) _ _ (ap (λ r. if nat_eq r ix then amount_of (need ∷ []) c else 0) (sym first)) (h ix c low)) in
      ap₂ (λ x l. x ∷ l) (sym first) more
    where
      same_rest : (a b c d : ℕ) → a ≡ b → a + c ≡ b + d → c ≡ d
      same_rest a b c d e f = omega (arith, e, f)

      by : {a b c : ℕ} (test : Bool) → nat_eq q p ≡ test → need.1 ≡ a → a + b ≡ (if test then need.1 else 0) + c → b ≡ c → q ≡ p
      by test is here mine same = grind (arith, common_steps, eqb-true)
