-- What is taken of providers, back to the sums of classes.
use Rattle.std.proofs.Common.{◌≡◌, ℕ, ◌<◌, List, [], ◌∷◌, map, length, refl, sym, ap, ◌∙◌, Bool, true, false, ◌||◌, ◌&&◌, Option, Some, None, if◌then◌else◌, nat_cmp, arith}
use Rattle.std.specs.Prelude.{bytes_eq, nat_eq}
use Rattle.std.specs.List.{AllByRecursion, filter, list_any}
use Rattle.std.proofs.lemmas.Bool.{eqb-true, or_parts}
use Rattle.std.proofs.lemmas.Grind.{common_steps}
use Rattle.std.proofs.lemmas.List.Elements.{All-filter, recursion_from_All}
use Rattle.std.proofs.lemmas.Map.Views.{any-filter_same}
use Rattle.std.proofs.lemmas.Slice.Eq.{bytes_eq-Decides}
use Rattle.serde_json.specs.Data.{Data, object, no_members, member, number, unsigned}
use Rattle.serde_json.specs.Find.{get_member}
use Rattle.ac_base.specs.Sorted.{rising}
use Rattle.ac_base.proofs.Small.{eq_turned}
use Rattle.ac_base.proofs.Sorted.SameItems.{member_rising}
use Rattle.ac_query.specs.Asked.{Asked}
use Rattle.ac_rules.specs.Placed.{Placed, assigned}
use Rattle.ac_rules.specs.Together.{amount_of, sum_on, is_empty}
use Rattle.ac_cloud.specs.World.{Provider}
use Rattle.ac_report.specs.Pages.{IsAssignment}
use Rattle.ac_report.specs.Trees.{gives, needs_on, provider_text, request, sum, allocation, allocations}
use Rattle.ac_report.proofs.SlotLemmas.{all_rising, needs_none, providers_are, sum_on_is}
use Rattle.ac_report.proofs.Trees.Finding.{AreTold, found}
use Rattle.ac_report.proofs.Trees.Gathering.{Named, bytes_eq_refl}

-- ---- sums of classes

-- what an allocation says of a class
abbrev number_in : Option Data → ℕ
number_in (Some (number (unsigned n))) = n
number_in _ = 0

abbrev sum_in : List ℕ → Option Data → ℕ
sum_in c (Some (object (member k (object ms) rest))) = number_in (get_member c ms)
sum_in c _ = 0

module _ (xs : List Placed) (ix : ℕ) (c : List ℕ) where
  absent : (needs : List (List ℕ × ℕ)) → list_any (λ m. bytes_eq c m.0) (map (sum xs ix) needs) ≡ false → amount_of needs c ≡ 0
  unfolding sum
  absent [] h = refl
  absent (need ∷ needs) h = let o = or_parts (bytes_eq c need.0) (list_any (λ m. bytes_eq c m.0) (map (sum xs ix) needs)) h in rw (eq_turned need.0 c, o.0) (omega (arith, absent needs o.1))

  same : (needs : List (List ℕ × ℕ)) → AllByRecursion (λ m. bytes_eq c m.0 ≡ true → m.1 ≡ number (unsigned (sum_on xs ix c))) (map (sum xs ix) needs)
  unfolding sum
  same [] = tt
  same (need ∷ needs) = (λ e. ap (λ k. number (unsigned (sum_on xs ix k))) (sym ((bytes_eq-Decides c need.0).0 e)), same needs)

  allocation_says : sum_in c (Some (allocation xs ix)) ≡ sum_on xs ix c
  unfolding allocation
  allocation_says = ap number_in (found c _ _ no_members (same (needs_on xs ix))) ∙ by (list_any (λ m. bytes_eq c m.0) (map (sum xs ix) (needs_on xs ix))) refl
    where
      by : (b : Bool) → list_any (λ m. bytes_eq c m.0) (map (sum xs ix) (needs_on xs ix)) ≡ b → number_in (if b then Some (number (unsigned (sum_on xs ix c))) else None) ≡ sum_on xs ix c
      by b e = grind (arith, common_steps, sum_on_is, absent)

-- ---- what is taken of providers

-- what a request says of the provider of a name
abbrev allocations_in : List ℕ → Data → Option Data
allocations_in name (object (member k (object ms) rest)) = get_member name ms
allocations_in name _ = None

module _ (all : List Provider) (told : AreTold all) (xs : List Placed) (ix : ℕ) (h : ix < length all) where
  abbrev taken : ℕ → Named
  taken p = (provider_text all p, allocation xs p)

  abbrev any_taken : List ℕ → Bool
  any_taken ps = list_any (λ m. bytes_eq (provider_text all ix) m.0) (map taken ps)

  of_one : (ps : List ℕ) → AllByRecursion (λ p. p < length all) ps → AllByRecursion (λ m. bytes_eq (provider_text all ix) m.0 ≡ true → m.1 ≡ allocation xs ix) (map taken ps)
  of_one [] a = tt
  of_one (p ∷ ps) a = (λ e. ap (allocation xs) (sym (told ix p h a.0 ((bytes_eq-Decides _ _).0 e))), of_one ps a.1)

  -- a provider that gives something and is not taken isn't listed
  not_taken : (ps : List ℕ) → any_taken ps ≡ false → list_any (λ p. nat_eq p ix) ps ≡ false
  not_taken [] e = refl
  not_taken (p ∷ ps) e = let o = or_parts (bytes_eq (provider_text all ix) (provider_text all p)) (any_taken ps) e in by (nat_eq p ix) refl o.0 (not_taken ps o.1)
    where
      by : (b : Bool) → nat_eq p ix ≡ b → bytes_eq (provider_text all ix) (provider_text all p) ≡ false → list_any (λ p. nat_eq p ix) ps ≡ false → b || list_any (λ p. nat_eq p ix) ps ≡ false
      by true s other none = let same = ap (λ q. bytes_eq (provider_text all ix) (provider_text all q)) (eqb-true p ix s) ∙ bytes_eq_refl (provider_text all ix) in absurd (cc)
      by false s other none = none

  nothing : (t : List ℕ) (c : List ℕ) → map (λ x. x.provider) xs ≡ t → any_taken (filter (λ ix. gives xs ix) (rising nat_cmp t)) ≡ false → sum_on xs ix c ≡ 0
  nothing t c e none =
      let listed : (gives xs ix && list_any (λ p. nat_eq p ix) t) ≡ false =
      ap (λ b. gives xs ix && b) (sym (member_rising ix t)) ∙ sym (any-filter_same (λ p. nat_eq p ix) (λ ix. gives xs ix) (gives xs ix) (λ p same. ap (λ q. gives xs q) (eqb-true p ix same)) (rising nat_cmp t)) ∙ not_taken _ none in
      sum_on_is xs ix c ∙ ap (λ needs. amount_of needs c) (by (list_any (λ p. nat_eq p ix) t) refl listed)
    where
      of : (needs : List (List ℕ × ℕ)) → is_empty needs ≡ true → needs ≡ []
      of needs e = grind (arith, common_steps)

      by : (b : Bool) → list_any (λ p. nat_eq p ix) t ≡ b → (gives xs ix && b) ≡ false → needs_on xs ix ≡ []
      by b s listed = grind (arith, common_steps, of, needs_none)

-- equal requests are of equal sums
request_says : (all : List Provider) → AreTold all → (asked : Asked) (list : List ℕ) → IsAssignment all asked list → (ix : ℕ) (c : List ℕ) → ix < length all
    → sum_in c (allocations_in (provider_text all ix) (request all asked list)) ≡ sum_on (assigned asked list) ix c
unfolding request allocations
request_says all told asked list at ix c h =
    let xs = assigned asked list in
    let Below : ℕ → Type 0 = λ p. p < length all in
    let ps = filter (λ ix. gives xs ix) (rising nat_cmp list) in
    ap (sum_in c) (found (provider_text all ix) (allocation xs ix) _ no_members (of_one all told xs ix h ps (recursion_from_All Below ps (All-filter (λ ix. gives xs ix) Below (rising nat_cmp list) (all_rising Below list at.below)))))
    ∙ by (any_taken all told xs ix h ps) refl
  where
    by : (b : Bool) → any_taken all told (assigned asked list) ix h (filter (λ ix. gives (assigned asked list) ix) (rising nat_cmp list)) ≡ b
        → sum_in c (if b then Some (allocation (assigned asked list) ix) else None) ≡ sum_on (assigned asked list) ix c
    by b e = grind (arith, common_steps, allocation_says, nothing, providers_are)

pub sums_agree : (all : List Provider) → AreTold all → (asked : Asked) (t u : List ℕ) → IsAssignment all asked t → IsAssignment all asked u → request all asked t ≡ request all asked u
    → (ix : ℕ) (c : List ℕ) → ix < length all → sum_on (assigned asked t) ix c ≡ sum_on (assigned asked u) ix c
sums_agree all told asked t u at au e ix c h = sym (request_says all told asked t at ix c h) ∙ ap (λ d. sum_in c (allocations_in (provider_text all ix) d)) e ∙ request_says all told asked u au ix c h
