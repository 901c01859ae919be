-- A class stands at one place among the entries of a provider, whose amount may be set.
use Rattle.ac_cloud.proofs.Common.{◌≡◌, ◌∙◌, ◌<◌, ◌&&◌, ◌==◌, ℕ, zero, suc, Bool, false, List, [], ◌∷◌, map, length, get_or, get_or-map, Option, None, Some, refl, sym, ap, ap₂, arith, if◌then◌else◌, inl, inr, cases_lt, cases_eq, length-map, range_with_len, bytes_eq, is_eq, text_cmp, is_eq-slice_cmp, lookup, entry_class, entry_pair, Entry, TextMap, UsedInventory, Provider, numbered_at, provider_at, IsStrictlySortedBy, Result, Ok, Err, result_ok, eq_by_cmp, false≢true}
use Rattle.std.proofs.Common.{set, length-set, ext_get_or, MatchResult, Equal}
use Rattle.std.proofs.lemmas.Bool.{false_from_ne_true}
use Rattle.std.proofs.lemmas.List.{get_or-set_same, get_or-set_other, set-get_or, map-set}
use Rattle.std.proofs.lemmas.Map.Keys.{IsDistinct-from_sorted, apart_from_distinct}
use Rattle.std.proofs.lemmas.Slice.Eq.{bytes_eq-Decides}
use Rattle.ac_base.proofs.Small.{equal, are_equal}
use Rattle.ac_cloud.specs.Amounts.{amount_at, entry_using, provider_using, with_amounts}
use Rattle.ac_cloud.specs.Cloud.Entries.{StandsAlone, entry_set, entry_value, is_there}
use Rattle.ac_cloud.specs.Cloud.Numbered.{numbered}
use Rattle.ac_cloud.proofs.ListFacts.{range_same}
use Rattle.ac_cloud.proofs.Places.WorldFacts.{numbered_size, numbered_here}
use Rattle.std.proofs.lemmas.Grind.{common_steps}
use Rattle.std.proofs.lemmas.Bool.{cases_Bool}

-- of amounts that stay, entries stay
pub kept : (amount : List ℕ → UsedInventory → ℕ) → ((class : List ℕ) (had : UsedInventory) → amount class had ≡ had.used) → (es : TextMap UsedInventory) → map (entry_using amount) es ≡ es
kept amount same [] = refl
kept amount same (e ∷ es) = ap₂ (λ used l. (e.0, record { inventory = e.1.inventory; used = used }) ∷ l) (same e.0 e.1) (kept amount same es)

-- so many of a class, where nothing is known of its provider
abbrev set_of : List ℕ → ℕ → List ℕ → UsedInventory → ℕ
set_of class used c had = if bytes_eq class c then used else had.used

-- one entry, of the class or of another
one_set : (class : List ℕ) (used : ℕ) (e : Entry) (b : Bool) → bytes_eq class (entry_class e) ≡ b
    → entry_using (set_of class used) (entry_pair e) ≡ entry_pair (if b then entry_set used e else e)
one_set class used e b h = grind (arith, common_steps, cases_Bool)

set_at : (class : List ℕ) (used : ℕ) (es : List Entry) (place : Option ℕ) (j : ℕ) (d : Entry) → StandsAlone class es place → j < length es
    → get_or (map (entry_using (set_of class used)) (map entry_pair es)) j (entry_pair d) ≡ entry_pair (if is_there place j then entry_set used (get_or es j d) else get_or es j d)
set_at class used es place j d s h =
    get_or-map (entry_using (set_of class used)) (map entry_pair es) j (entry_pair d) (entry_pair d) (omega (arith, h, length-map es entry_pair))
    ∙ ap (entry_using (set_of class used)) (get_or-map entry_pair es j d (entry_pair d) h)
    ∙ one_set class used (get_or es j d) (is_there place j) (s.alone j d h)

-- the entries of a provider, after the amount at the place of a class is set
pub set_there : (class : List ℕ) (used : ℕ) (es : List Entry) (k : ℕ) (d : Entry) → StandsAlone class es (Some k)
    → map entry_pair (set es k (entry_set used (get_or es k d))) ≡ map (entry_using (set_of class used)) (map entry_pair es)
set_there class used es k d s =
    let news = set es k (entry_set used (get_or es k d)) in
    let long : length (map entry_pair news) ≡ length es = length-map news entry_pair ∙ length-set es k (entry_set used (get_or es k d)) in
    ext_get_or (entry_pair d) (map entry_pair news) (map (entry_using (set_of class used)) (map entry_pair es))
    (long ∙ sym (length-map (map entry_pair es) (entry_using (set_of class used)) ∙ length-map es entry_pair))
    (λ j inside.
    let h : j < length es = omega (arith, inside, long) in
    get_or-map entry_pair news j d (entry_pair d) (omega (arith, h, length-set es k (entry_set used (get_or es k d))))
    ∙ elim (cases_eq j k) [
      | inl same ↦
          ap (λ (i : ℕ). entry_pair (get_or news i d)) same
          ∙ ap entry_pair (get_or-set_same es k (entry_set used (get_or es k d)) d s.inside)
          ∙ ap (λ (i : ℕ). entry_pair (entry_set used (get_or es i d))) (sym same)
          ∙ ap (λ b. entry_pair (if b then entry_set used (get_or es j d) else get_or es j d)) (sym (equal k j (sym same)))
      | inr other ↦
          ap entry_pair (get_or-set_other es k j (entry_set used (get_or es k d)) d other)
          ∙ ap (λ b. entry_pair (if b then entry_set used (get_or es j d) else get_or es j d)) (sym (false_from_ne_true (k == j) (λ t. other (sym (are_equal k j t)))))
    ]
    ∙ sym (set_at class used es (Some k) j d s h))

none_set : (class : List ℕ) (used : ℕ) (es : List Entry) → ((k : ℕ) (d : Entry) → k < length es → bytes_eq class (entry_class (get_or es k d)) ≡ false)
    → map entry_pair es ≡ map (entry_using (set_of class used)) (map entry_pair es)
none_set class used [] h = refl
none_set class used (e ∷ es) h =
    ap₂ (λ x l. x ∷ l) (sym (one_set class used e false (h zero e (omega arith)))) (none_set class used es (λ (k : ℕ) d (inside : k < length es). h (suc k) d (omega arith)))

pub set_nowhere : (class : List ℕ) (used : ℕ) (es : List Entry) → StandsAlone class es None → map entry_pair es ≡ map (entry_using (set_of class used)) (map entry_pair es)
set_nowhere class used es s = none_set class used es s.alone

-- ---- where a search found a class

apart : (es : List Entry) (i j : ℕ) (d : Entry) → IsStrictlySortedBy text_cmp (map entry_class es) → i < j → j < length es
    → bytes_eq (entry_class (get_or es i d)) (entry_class (get_or es j d)) ≡ false
apart es i j d h less inside =
    let far : eq_by_cmp text_cmp (get_or (map entry_class es) i (entry_class d)) (get_or (map entry_class es) j (entry_class d)) ≡ false =
    apart_from_distinct (eq_by_cmp text_cmp) (map entry_class es) i j (entry_class d) (IsDistinct-from_sorted text_cmp (map entry_class es) h) less (omega (arith, inside, length-map es entry_class)) in
    sym (is_eq-slice_cmp (entry_class (get_or es i d)) (entry_class (get_or es j d)))
    ∙ ap₂ (eq_by_cmp text_cmp) (sym (get_or-map entry_class es i d (entry_class d) (omega (arith, less, inside)))) (sym (get_or-map entry_class es j d (entry_class d) inside))
    ∙ far

-- a class that is that of one entry is that of no other
only : (class : List ℕ) (es : List Entry) (i j : ℕ) (d : Entry) → IsStrictlySortedBy text_cmp (map entry_class es) → i < length es → j < length es
    → entry_class (get_or es i d) ≡ class → bytes_eq class (entry_class (get_or es j d)) ≡ (i == j)
only class es i j d h inside there e = elim (cases_eq i j) [
  | inl same ↦
      (bytes_eq-Decides class (entry_class (get_or es j d))).1 (sym e ∙ ap (λ (k : ℕ). entry_class (get_or es k d)) same) ∙ sym (equal i j same)
  | inr other ↦
      false_from_ne_true (bytes_eq class (entry_class (get_or es j d))) (λ t.
      let met : entry_class (get_or es i d) ≡ entry_class (get_or es j d) = e ∙ (bytes_eq-Decides class (entry_class (get_or es j d))).0 t in
      elim (cases_lt i j) [
        | inl less ↦ false≢true (sym (apart es i j d h less there) ∙ (bytes_eq-Decides _ _).1 met)
        | inr more ↦ let less : j < i = omega arith in false≢true (sym (apart es j i d h less inside) ∙ (bytes_eq-Decides _ _).1 (sym met))
      ])
      ∙ sym (false_from_ne_true (i == j) (λ t. other (are_equal i j t)))
]

pub stands : (class : List ℕ) (es : List Entry) (r : Result ℕ ℕ) → IsStrictlySortedBy text_cmp (map entry_class es)
    → MatchResult r (λ i. (i < length es) × ((d : Entry) → text_cmp (entry_class (get_or es i d)) class ≡ Equal)) (λ i. (k : ℕ) (d : Entry) → k < length es → is_eq (text_cmp (entry_class (get_or es k d)) class) ≡ false)
    → StandsAlone class es (result_ok r)
stands class es (Ok i) h f = record {
  inside = f.0;
  alone = λ k d inside. only class es i k d h f.0 inside
      ((bytes_eq-Decides (entry_class (get_or es i d)) class).0 (sym (is_eq-slice_cmp (entry_class (get_or es i d)) class) ∙ ap is_eq (f.1 d)));
}
stands class es (Err i) h f = record {
  inside = tt;
  alone = λ k d inside.
      false_from_ne_true (bytes_eq class (entry_class (get_or es k d))) (λ t.
      false≢true (sym (f k d inside) ∙ is_eq-slice_cmp (entry_class (get_or es k d)) class ∙ (bytes_eq-Decides _ _).1 (sym ((bytes_eq-Decides class (entry_class (get_or es k d))).0 t))));
}

-- what there is of a class, by its place
lookup_at : (class : List ℕ) (es : List Entry) (k : ℕ) (d : Entry) → k < length es → ((j : ℕ) → j < length es → bytes_eq class (entry_class (get_or es j d)) ≡ (k == j))
    → lookup (bytes_eq class) (map entry_pair es) ≡ Some (entry_value (get_or es k d))
lookup_at class [] k d h s = absurd (omega (arith, h))
lookup_at class (e ∷ es) zero d h s = rw (s zero (omega arith)) refl
lookup_at class (e ∷ es) (suc k) d h s =
    let first : bytes_eq class (entry_class e) ≡ false = s zero (omega arith) ∙ false_from_ne_true (suc k == zero) (λ t. absurd (omega (arith, are_equal (suc k) zero t))) in
    rw first (lookup_at class es k d (omega arith) (λ (j : ℕ) (inside : j < length es). s (suc j) (omega arith) ∙ next k j))
  where
    next : (k j : ℕ) → (suc k == suc j) ≡ (k == j)
    next k j = grind arith

pub lookup_there : (class : List ℕ) (es : List Entry) (k : ℕ) (d : Entry) → StandsAlone class es (Some k) → lookup (bytes_eq class) (map entry_pair es) ≡ Some (entry_value (get_or es k d))
lookup_there class es k d s = lookup_at class es k d s.inside (λ j inside. s.alone j d inside)

none_found : (class : List ℕ) (es : List Entry) → ((k : ℕ) (d : Entry) → k < length es → bytes_eq class (entry_class (get_or es k d)) ≡ false) → lookup (bytes_eq class) (map entry_pair es) ≡ None
none_found class [] h = refl
none_found class (e ∷ es) h = let other = h zero e (omega arith) in rw other (none_found class es (λ (k : ℕ) d (inside : k < length es). h (suc k) d (omega arith)))

pub lookup_nowhere : (class : List ℕ) (es : List Entry) → StandsAlone class es None → lookup (bytes_eq class) (map entry_pair es) ≡ None
lookup_nowhere class es s = none_found class es s.alone

-- ---- the providers of a cloud

-- the amount at one place is set
pub one_used : (ids : List ℕ) (parents : List (Option ℕ)) (entries : List (TextMap UsedInventory)) (traits : List (List (List ℕ))) (aggregates names : List (List ℕ))
    (ix : ℕ) (class : List ℕ) (used : ℕ) (es : TextMap UsedInventory)
    → ix < length entries → es ≡ map (entry_using (set_of class used)) (get_or entries ix [])
    → numbered ids parents (set entries ix es) traits aggregates names ≡ with_amounts (amount_at ix class used) (numbered ids parents entries traits aggregates names)
unfolding numbered with_amounts
one_used ids parents entries traits aggregates names ix class used es h e =
    range_same (numbered_at ids parents (set entries ix es) traits aggregates names) (λ p. provider_using (amount_at ix class used p) (provider_at all p)) 0 (length ids)
    (λ p low inside. at p (omega arith) ∙ ap (provider_using (amount_at ix class used p)) (sym (numbered_here ids parents entries traits aggregates names p (omega arith))))
    ∙ ap (λ (n : ℕ). map (λ p. provider_using (amount_at ix class used p) (provider_at all p)) (range_with_len 0 n)) (sym (numbered_size ids parents entries traits aggregates names))
  where
    all : List Provider
    all = numbered ids parents entries traits aggregates names

    own : (p : ℕ) → get_or (set entries ix es) p [] ≡ map (entry_using (amount_at ix class used p)) (get_or entries p [])
    own p = elim (cases_eq p ix) [
      | inl same ↦
          ap (λ (j : ℕ). get_or (set entries ix es) j []) same ∙ get_or-set_same entries ix es [] h ∙ e
          ∙ ap (λ (j : ℕ). map (entry_using (set_of class used)) (get_or entries j [])) (sym same)
          ∙ ap (λ b. map (entry_using (λ c had. if b && bytes_eq class c then used else had.used)) (get_or entries p [])) (sym (equal p ix same))
      | inr other ↦
          get_or-set_other entries ix p es [] other
          ∙ sym (kept (amount_at ix class used p) (λ c had. ap (λ b. if b && bytes_eq class c then used else had.used) (false_from_ne_true (p == ix) (λ t. other (are_equal p ix t)))) (get_or entries p []))
    ]

    at : (p : ℕ) → p < length ids
        → numbered_at ids parents (set entries ix es) traits aggregates names p ≡ provider_using (amount_at ix class used p) (numbered_at ids parents entries traits aggregates names p)
    at p inside = ap (λ l. record (numbered_at ids parents entries traits aggregates names p) { entries = l }) (own p)

-- ---- the entries of all providers

pub some_entry : (es : List Entry) (k : ℕ) → k < length es → Entry
some_entry [] k h = absurd (omega (arith, h))
some_entry (e ∷ es) k h = e

pub classes_kept : (used : ℕ) (es : List Entry) (k : ℕ) (d : Entry) → k < length es → map entry_class (set es k (entry_set used (get_or es k d))) ≡ map entry_class es
classes_kept used es k d h =
    map-set entry_class es k (entry_set used (get_or es k d))
    ∙ ap (set (map entry_class es) k) (sym (get_or-map entry_class es k d (entry_class d) h))
    ∙ set-get_or (map entry_class es) k (entry_class d)

module _ (ids : List ℕ) (parents : List (Option ℕ)) (lists : List (List Entry)) (traits : List (List (List ℕ))) (aggregates names : List (List ℕ)) (ix : ℕ) (inside : ix < length lists) (class : List ℕ) (used : ℕ) where
  abbrev es : List Entry
  es = get_or lists ix []

  abbrev shown : List (TextMap UsedInventory)
  shown = map (map entry_pair) lists

  own : map (entry_using (set_of class used)) (map entry_pair es) ≡ map (entry_using (set_of class used)) (get_or shown ix [])
  own = ap (map (entry_using (set_of class used))) (sym (get_or-map (map entry_pair) lists ix [] [] inside))

  pub providers_set : (k : ℕ) (d : Entry) → StandsAlone class (get_or lists ix []) (Some k)
      → numbered ids parents (map (map entry_pair) (set lists ix (set (get_or lists ix []) k (entry_set used (get_or (get_or lists ix []) k d))))) traits aggregates names
      ≡ with_amounts (amount_at ix class used) (numbered ids parents (map (map entry_pair) lists) traits aggregates names)
  providers_set k d s =
      let news = set es k (entry_set used (get_or es k d)) in
      ap (λ l. numbered ids parents l traits aggregates names) (map-set (map entry_pair) lists ix news)
      ∙ one_used ids parents shown traits aggregates names ix class used (map entry_pair news) (omega (arith, inside, length-map lists (map entry_pair))) (set_there class used es k d s ∙ own)

  pub providers_kept : StandsAlone class (get_or lists ix []) None
      → numbered ids parents (map (map entry_pair) lists) traits aggregates names
      ≡ with_amounts (amount_at ix class used) (numbered ids parents (map (map entry_pair) lists) traits aggregates names)
  providers_kept s =
      ap (λ l. numbered ids parents l traits aggregates names) (sym (set-get_or shown ix []))
      ∙ one_used ids parents shown traits aggregates names ix class used (get_or shown ix []) (omega (arith, inside, length-map lists (map entry_pair)))
      (get_or-map (map entry_pair) lists ix [] [] inside ∙ set_nowhere class used es s ∙ own)
