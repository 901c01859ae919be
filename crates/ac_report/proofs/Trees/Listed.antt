-- Members whose names rise stand in their order.
use Rattle.std.proofs.lemmas.Grind.{common_steps}
use Rattle.std.proofs.Common.{◌≡◌, ◌<◌, ◌+◌, ℕ, List, [], ◌∷◌, ◌++◌, Bool, map, length, nat_cmp, Ordering, Less, refl, sym, ap, append_assoc, append-nil, subst, arith}
use Rattle.std.specs.BTreeMap.{insert_entry}
use Rattle.std.specs.List.{All, AllByRecursion, filter, range_with_len}
use Rattle.std.specs.List.Sorted.{IsStrictlySortedBy}
use Rattle.std.specs.Map.{keys_of}
use Rattle.std.specs.Ordering.{match_ordering}
use Rattle.std.proofs.lemmas.Cmp.{nat_list_cmp_total, ranked}
use Rattle.std.proofs.lemmas.List.Elements.{All-filter, recursion_from_All}
use Rattle.std.proofs.lemmas.List.FromFn.{get_or-range_with_len, length-range_with_len}
use Rattle.std.proofs.lemmas.Map.Keys.{sorted_from_strictly_increasing}
use Rattle.std.proofs.lemmas.List.Kept.{IsStrictlySortedBy-filter}
use Rattle.serde_json.specs.Data.{Data, put}
use Rattle.ac_base.specs.Texts.{text_cmp}
use Rattle.ac_cloud.specs.Laws.{AreProviders}
use Rattle.ac_cloud.specs.World.{Provider, id_at}
use Rattle.ac_report.specs.Parts.{gathered_onto, listed}
use Rattle.ac_report.specs.Trees.{gathered, provider_text}
use Rattle.ac_report.proofs.IdTexts.{texts_rise}
use Rattle.ac_report.proofs.Trees.Gathering.{Named}

below_middle : (first : Named) (done : List Named) (m : Named) (ms : List Named) → AllByRecursion (λ k. text_cmp first.0 k ≡ Less) (keys_of (done ++ m ∷ ms)) → text_cmp first.0 m.0 ≡ Less
below_middle first [] m ms h = h.0
below_middle first (x ∷ done) m ms h = below_middle first done m ms h.1

-- a name that is above those before it goes last
put_last : (done : List Named) (m : Named) (ms : List Named) → IsStrictlySortedBy text_cmp (keys_of (done ++ m ∷ ms)) → put m.0 m.1 (listed done) ≡ listed (done ++ m ∷ [])
unfolding IsStrictlySortedBy
put_last [] m ms h = refl
put_last (first ∷ done) m ms h = grind (arith, common_steps, nat_list_cmp_total, below_middle, put_last done m ms h.1)

onto_listed : (done ms : List Named) → IsStrictlySortedBy text_cmp (keys_of (done ++ ms)) → gathered_onto (listed done) ms ≡ listed (done ++ ms)
onto_listed done [] h = ap listed (sym (append-nil done))
onto_listed done (m ∷ ms) h = grind (arith, common_steps, put_last, append_assoc, onto_listed (done ++ m ∷ []) ms (subst (λ l. IsStrictlySortedBy text_cmp (keys_of l)) (sym (append_assoc done (m ∷ []) ms)) h))

-- members whose names rise stand in their order
pub gathered_listed : (ms : List Named) → IsStrictlySortedBy text_cmp (keys_of ms) → gathered ms ≡ listed ms
gathered_listed ms h = onto_listed [] ms h

-- ---- one member more

listed_match : (o : Ordering) (a b c : List Named) → listed (match_ordering o a b c) ≡ match_ordering o (listed a) (listed b) (listed c)
listed_match o a b c = grind (arith, common_steps)

pub listed_put : (ms : List Named) (k : List ℕ) (d : Data) → put k d (listed ms) ≡ listed (insert_entry text_cmp ms k d)
listed_put [] k d = refl
listed_put (m ∷ ms) k d = grind (arith, common_steps, listed_match, listed_put ms k d)

-- ---- members of providers that rise

module _ (all : List Provider) (are : AreProviders all) (g : ℕ → Data) where
  abbrev there : ℕ → Named
  there ix = (provider_text all ix, g ix)

  texts_above : (p : ℕ) (ps : List ℕ) → AllByRecursion (λ q. nat_cmp p q ≡ Less) ps → AllByRecursion (λ q. q < length all) ps → AllByRecursion (λ k. text_cmp (provider_text all p) k ≡ Less) (keys_of (map there ps))
  texts_above p [] h b = tt
  texts_above p (q ∷ ps) h b = (texts_rise (id_at all p) (id_at all q) (are.order p q (ranked p q Less (sym h.0)) b.0) (are.fit q b.0), texts_above p ps h.1 b.1)

  names_rise : (ps : List ℕ) → IsStrictlySortedBy nat_cmp ps → AllByRecursion (λ q. q < length all) ps → IsStrictlySortedBy text_cmp (keys_of (map there ps))
  unfolding IsStrictlySortedBy
  names_rise [] h b = tt
  names_rise (p ∷ ps) h b = (texts_above p ps h.0 b.1, names_rise ps h.1 b.1)

  -- the members of some that rise
  pub kept_listed : (t : ℕ → Bool) (ps : List ℕ) → IsStrictlySortedBy nat_cmp ps → All (λ q. q < length all) ps → gathered (map there (filter t ps)) ≡ listed (map there (filter t ps))
  kept_listed t ps h b =
      gathered_listed (map there (filter t ps)) (names_rise (filter t ps) (IsStrictlySortedBy-filter nat_cmp t ps h) (recursion_from_All (λ q. q < length all) (filter t ps) (All-filter t (λ q. q < length all) ps b)))

pub range_rises : (first n : ℕ) → IsStrictlySortedBy nat_cmp (range_with_len first n)
range_rises first n = sorted_from_strictly_increasing (range_with_len first n) (λ k h.
    let l = length-range_with_len first n in
    omega (arith, get_or-range_with_len first n k 0 (omega (arith, h, l)), get_or-range_with_len first n (k + 1) 0 (omega (arith, h, l))))

pub range_below : (n : ℕ) → All (λ q. q < n) (range_with_len 0 n)
range_below n i d h = rw (get_or-range_with_len 0 n i d (omega (arith, h, length-range_with_len 0 n))) (omega (arith, h, length-range_with_len 0 n))
