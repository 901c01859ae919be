-- A token, as the least list of places: the first places whose ids come after it.
use Rattle.std.proofs.Common.{◌≡◌, ℕ, ◌+◌, ◌-◌, ◌<◌, ◌≤◌, ◌==◌, ◌&&◌, zero, suc, true, false, not, List, [], ◌∷◌, inl, inr, length, take, refl, sym, ap, ◌∙◌, nat_lt, arith}
use Rattle.std.specs.List.{AllByRecursion as Each}
use Rattle.std.proofs.lemmas.Bool.{cases_order}
use Rattle.std.proofs.lemmas.Bool.Decides.{nat_tests}
use Rattle.ac_cloud.specs.World.{Provider, id_at}
use Rattle.ac_rules.specs.Lists.{lex_lt}
use Rattle.ac_rules.specs.Pages.{ids_of}
use Rattle.ac_rules.specs.Laws.{AreInOrder}
use Rattle.ac_search.specs.Between.{rank_of, is_known, least_after}
use Rattle.ac_rules.proofs.Lists.OrderLemmas.{lex_nil}
use Rattle.ac_rules.proofs.Elements.{filter_agree, each_weaker}
use Rattle.ac_rules.proofs.Lists.RestLemmas.{IsChosen, each_candidate}
use Rattle.ac_prune.specs.Search.{sought}
use Rattle.ac_rules.specs.Pages.{is_after, candidates, rest}
use Rattle.ac_prune.specs.QuerySearch.{search_of}
use Rattle.ac_search.specs.Between.{least_of}
use Rattle.ac_query.specs.Asked.{Asked, slots_of}
use Rattle.std.proofs.lemmas.List.Elements.{recursion_from_All}
use Rattle.std.proofs.Common.{Option, Some, None}

-- each provider before the rank has an id below
pub rank_above : (all : List Provider) (id p : ℕ) → p < rank_of all id → id_at all p < id
rank_above [] id p h = absurd (omega arith)
rank_above (q ∷ all) id zero h = grind (arith, nat_tests)
rank_above (q ∷ all) id (suc p) h = grind (arith, nat_tests, rank_above all id p)

-- and the one there has none
pub rank_here : (all : List Provider) (id : ℕ) → rank_of all id < length all → id ≤ id_at all (rank_of all id)
rank_here [] id h = absurd (omega arith)
rank_here (q ∷ all) id h = grind (arith, nat_tests, rank_here all id)

-- a place against an id
record Compares (all : List Provider) (v r : ℕ) : Type 0 where
  before : nat_lt (id_at all r) v ≡ nat_lt r (rank_of all v)
  same : (v == id_at all r) ≡ is_known all v && (r == rank_of all v)

compares : (all : List Provider) → AreInOrder all → (v r : ℕ) → r < length all → Compares all v r
compares all order v r low = elim (cases_order r (rank_of all v)) [
  | inl e ↦
      let here = rank_here all v (omega arith) in
      let is : id_at all r ≡ id_at all (rank_of all v) = ap (id_at all) e in
      record { before = grind (arith, nat_tests); same = grind (arith, nat_tests) }
  | inr o ↦ elim o [
    | inl w ↦ let less = rank_above all v r w in record { before = grind (arith, nat_tests); same = grind (arith, nat_tests) }
    | inr w ↦
        let here = rank_here all v (omega arith) in
        let more = order (rank_of all v) r w low in
        record { before = grind (arith, nat_tests); same = grind (arith, nat_tests) }
  ]
]

pub cut_nil : (q : List ℕ) (i : ℕ) → lex_lt q (take i []) ≡ false
cut_nil q zero = lex_nil q
cut_nil q (suc i) = lex_nil q

-- a list of a provider for each slot comes after these ids exactly where it isn't before their least list
pub after_least : (all : List Provider) → AreInOrder all → (k : ℕ) (x t : List ℕ) → length t ≡ k → 0 < k → Each (λ p. p < length all) t
    → lex_lt x (ids_of all t) ≡ not (lex_lt t (least_after all k x))
after_least all order k x [] b some low = absurd (omega arith)
after_least all order k [] (r ∷ t) b some low = refl
after_least all order zero (v ∷ x) (r ∷ t) b some low = absurd (omega arith)
after_least all order (suc zero) (v ∷ x) (r ∷ s ∷ t) b some low = absurd (omega arith)
after_least all order (suc zero) (v ∷ x) (r ∷ []) b some low = let c = compares all order v r low.0 in grind (arith, nat_tests, lex_nil x, c.before, c.same)
after_least all order (suc (suc k)) (v ∷ x) (r ∷ t) b some low =
    let c = compares all order v r low.0 in
    let more = after_least all order (suc k) x t (omega arith) (omega arith) low.1 in
    grind (arith, nat_tests, lex_nil t, c.before, c.same, more)

-- a shorter list is before ids cut to its length exactly where it is before their least list so cut
pub before_least : (all : List Provider) → AreInOrder all → (k : ℕ) (x q : List ℕ) → length q < k → Each (λ p. p < length all) q
    → lex_lt (ids_of all q) (take (length q) x) ≡ lex_lt q (take (length q) (least_after all k x))
before_least all order zero x q b low = absurd (omega arith)
before_least all order (suc k) [] q b low = cut_nil (ids_of all q) (length q) ∙ sym (cut_nil q (length q))
before_least all order (suc k) (v ∷ x) [] b low = refl
before_least all order (suc zero) (v ∷ x) (r ∷ q) b low = absurd (omega arith)
before_least all order (suc (suc k)) (v ∷ x) (r ∷ q) b low =
    let c = compares all order v r low.0 in
    let more = before_least all order (suc k) x q (omega arith) low.1 in
    grind (arith, nat_tests, cut_nil q (length q), c.before, c.same, more)

pub known_low : (all : List Provider) (id : ℕ) → is_known all id ≡ true → rank_of all id < length all
known_low all id h = grind (arith, nat_tests)

-- the least list of some ids, by whether a provider has the first
pub least_none : (all : List Provider) (ids : List ℕ) → least_after all 0 ids ≡ []
least_none all [] = refl
least_none all (id ∷ ids) = refl

pub least_unknown : (all : List Provider) (k id : ℕ) (ids : List ℕ) → 0 < k → is_known all id ≡ false → least_after all k (id ∷ ids) ≡ rank_of all id ∷ []
least_unknown all zero id ids some e = absurd (omega (arith, some))
least_unknown all (suc zero) id ids some e = rw e refl
least_unknown all (suc (suc k)) id ids some e = rw e refl

pub least_last : (all : List Provider) (k id : ℕ) (ids : List ℕ) → k ≡ 1 → is_known all id ≡ true → least_after all k (id ∷ ids) ≡ (rank_of all id + 1) ∷ []
least_last all k id ids one e = rw one (rw e refl)

pub least_known : (all : List Provider) (k id : ℕ) (ids : List ℕ) → 1 < k → is_known all id ≡ true → least_after all k (id ∷ ids) ≡ rank_of all id ∷ least_after all (k - 1) ids
least_known all zero id ids some e = absurd (omega (arith, some))
least_known all (suc zero) id ids some e = absurd (omega (arith, some))
least_known all (suc (suc k)) id ids some e = let next : suc (suc k) - 1 ≡ suc k = omega arith in rw (next, e) refl

-- it is no longer than there are slots
pub least_length : (all : List Provider) (k : ℕ) (x : List ℕ) → length (least_after all k x) ≤ k
least_length all k [] = omega arith
least_length all zero (v ∷ x) = omega arith
least_length all (suc zero) (v ∷ x) = omega arith
least_length all (suc (suc k)) (v ∷ x) = grind (arith, least_length all (suc k) x)

pub least_len : (all : List Provider) (k : ℕ) (x : Option (List ℕ)) → length (least_of all k x) ≤ k
least_len all k None = omega arith
least_len all k (Some x) = least_length all k x

-- what is left after a token is what is sought from its least list on
pub rest_sought : (all : List Provider) → AreInOrder all → (asked : Asked) → 0 < length (slots_of asked) → (x : Option (List ℕ))
    → sought (search_of all asked) (least_of all (length (slots_of asked)) x) ≡ rest all asked x
unfolding rest candidates
rest_sought all order asked some x = sym (filter_agree (λ t. is_after all x t) (λ t. not (lex_lt t (least_of all (length (slots_of asked)) x))) (candidates all asked)
    (each_weaker (IsChosen all asked) (λ t. is_after all x t ≡ not (lex_lt t (least_of all (length (slots_of asked)) x))) (candidates all asked) (λ t h. same x t h) (each_candidate all asked)))
  where
    same : (y : Option (List ℕ)) (t : List ℕ) → IsChosen all asked t → is_after all y t ≡ not (lex_lt t (least_of all (length (slots_of asked)) y))
    same None t h = rw (lex_nil t) refl
    same (Some ids) t h = after_least all order (length (slots_of asked)) ids t h.list.long some (recursion_from_All (λ p. p < length all) t h.list.below)
