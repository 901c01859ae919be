-- The trees of requests, as they are sent.
use Rattle.std.proofs.lemmas.Grind.{common_steps}
use Rattle.std.proofs.Common.{◌≡◌, ◌∙◌, ◌<◌, ◌+◌, ℕ, List, [], ◌∷◌, ◌++◌, Bool, true, false, not, codes, drop, fold, slice_index, length, map, nat_cmp, ap, ap₂, arith, refl, sym}
use Rattle.std.specs.Borrow.{Bor}
use Rattle.std.specs.BTreeSet.{insert_key}
use Rattle.std.specs.List.{All, filter}
use Rattle.std.specs.Map.{keys_of}
use Rattle.std.proofs.lemmas.Cmp.{nat_cmp_total}
use Rattle.std.proofs.lemmas.List.{drop_more, map-append}
use Rattle.std.proofs.lemmas.Simd.{map-map}
use Rattle.serde_json.specs.Data.{Data, object, number, unsigned, no_members, member, put}
use Rattle.ac_base.specs.Texts.{id_text, text_cmp}
use Rattle.ac_query.specs.Shown.Queries.{asked_of}
use Rattle.ac_rules.specs.Placed.{Placed, assigned}
use Rattle.ac_rules.specs.Together.{is_empty, sum_on}
use Rattle.ac_base.proofs.Sorted.SortedSets.{rising_sorted}
use Rattle.ac_cloud.specs.Laws.{AreProviders}
use Rattle.ac_base.specs.Sorted.{rising}
use Rattle.ac_cloud.specs.World.{Provider, id_at}
use Rattle.ac_report.specs.Parts.{gathered_onto, listed}
use Rattle.ac_report.specs.Requests.{allocation_member, allocation_tree, class_sum, resources_tree}
use Rattle.ac_report.specs.declared.request.parts.Allocation.{Allocation}
use Rattle.ac_report.specs.Trees.{allocation, gathered, gives, needs_on, provider_text, sum}
use Rattle.ac_report.proofs.SlotLemmas.{all_rising}
use Rattle.ac_report.proofs.Trees.Finding.{same_text}
use Rattle.ac_report.proofs.Trees.Gathering.{Named}
use Rattle.ac_report.proofs.Trees.Listed.{kept_listed}

-- what is taken of a provider, by its id
abbrev pub taken : List Provider → List Placed → ℕ → Named
taken all xs ix = (provider_text all ix, allocation xs ix)

-- ---- sums of classes

module _ (f : List ℕ → Data) where
  abbrev named : List ℕ → Named
  named k = (k, f k)

  put_named : (ks : List (List ℕ)) (k : List ℕ) → put k (f k) (listed (map named ks)) ≡ listed (map named (insert_key text_cmp ks k))
  put_named [] k = refl
  put_named (x ∷ ks) k = grind (arith, common_steps, named, same_text, put_named ks k)

  onto_named : (needs : List (List ℕ × ℕ)) (ks : List (List ℕ)) → gathered_onto (listed (map named ks)) (map (λ need. named need.0) needs) ≡ listed (map named (fold (insert_key text_cmp) ks (keys_of needs)))
  onto_named [] ks = refl
  onto_named (need ∷ needs) ks = ap (λ ms. gathered_onto ms (map (λ need. named need.0) needs)) (put_named ks need.0) ∙ onto_named needs (insert_key text_cmp ks need.0)

pub sums_listed : (xs : List Placed) (ix : ℕ) → gathered (map (sum xs ix) (needs_on xs ix)) ≡ listed (map (class_sum xs ix) (rising text_cmp (keys_of (needs_on xs ix))))
unfolding sum
sums_listed xs ix = onto_named (λ class. number (unsigned (sum_on xs ix class))) (needs_on xs ix) []

some_inserted : (ks : List (List ℕ)) (k : List ℕ) → is_empty (insert_key text_cmp ks k) ≡ false
some_inserted [] k = refl
some_inserted (x ∷ ks) k = grind (arith, common_steps)

some_kept : (ks more : List (List ℕ)) → is_empty ks ≡ false → is_empty (fold (insert_key text_cmp) ks more) ≡ false
some_kept ks [] h = h
some_kept ks (k ∷ more) h = some_kept (insert_key text_cmp ks k) more (some_inserted ks k)

-- where no class is needed, nothing is
pub none_needed : (needs : List (List ℕ × ℕ)) → is_empty (rising text_cmp (keys_of needs)) ≡ is_empty needs
none_needed [] = refl
none_needed (need ∷ needs) = some_kept (need.0 ∷ []) (keys_of needs) refl

pub allocations_listed : (all : List Provider) → AreProviders all → (xs : List Placed) (list : List ℕ) → All (λ ix. ix < length all) list
    → gathered (map (taken all xs) (filter (λ ix. gives xs ix) (rising nat_cmp list))) ≡ listed (map (taken all xs) (filter (λ ix. gives xs ix) (rising nat_cmp list)))
allocations_listed all are xs list h =
    kept_listed all are (allocation xs) (λ ix. gives xs ix) (rising nat_cmp list) (rising_sorted nat_cmp_total list) (all_rising (λ ix. ix < length all) list h)

-- ---- what is gathered for a request

module _ (xs : List Placed) (ix : ℕ) where
  -- a provider gives something where classes of it are needed
  pub gives_by : (keys : List (Bor (List ℕ))) → map (λ k. k.now) keys ≡ rising text_cmp (keys_of (needs_on xs ix)) → gives xs ix ≡ not (is_empty keys)
  gives_by keys e = grind (arith, common_steps, none_needed)

pub allocation_is : (all : List Provider) (a : Allocation) → a.id ≡ id_at all a.provider
    → map (λ k. k.now) a.classes.keys ≡ rising text_cmp (keys_of (needs_on (assigned (asked_of a.query.now) a.list.now) a.provider))
    → allocation_member a ≡ taken all (assigned (asked_of a.query.now) a.list.now) a.provider
unfolding allocation allocation_tree resources_tree
allocation_is all a e h =
    let xs = assigned (asked_of a.query.now) a.list.now in
    ap₂ (λ id ms. (id_text id, object (member (codes "resources") (object ms) no_members))) e
    (ap listed (sym (map-map (class_sum xs a.provider) (λ k. k.now) a.classes.keys) ∙ ap (map (class_sum xs a.provider)) h) ∙ sym (sums_listed xs a.provider))

pub member_pushed : (sent : List Allocation) (a : Allocation) (m : Named) (rest : List Named) → allocation_member a ≡ m → map allocation_member (sent ++ a ∷ []) ++ rest ≡ map allocation_member sent ++ m ∷ rest
member_pushed sent a m rest e = grind (arith, common_steps, map-append)

pub empty_by : {X : Type 0} (xs : List X) → length xs ≡ 0 → is_empty xs ≡ true
empty_by xs h = grind (arith, common_steps)

pub some_by : {X : Type 0} (xs : List X) → (length xs ≡ 0 → ⊥) → is_empty xs ≡ false
some_by xs h = grind (arith, common_steps)

-- of some numbers those that pass a test, from a place on
pub kept_more : (t : ℕ → Bool) (xs : List ℕ) (i : ℕ) → i < length xs → t (slice_index xs i) ≡ true → filter t (drop i xs) ≡ slice_index xs i ∷ filter t (drop (i + 1) xs)
kept_more t xs i h e = ap (filter t) (drop_more xs i 0 h) ∙ rw e refl

pub kept_less : (t : ℕ → Bool) (xs : List ℕ) (i : ℕ) → i < length xs → t (slice_index xs i) ≡ false → filter t (drop i xs) ≡ filter t (drop (i + 1) xs)
kept_less t xs i h e = ap (filter t) (drop_more xs i 0 h) ∙ rw e refl
