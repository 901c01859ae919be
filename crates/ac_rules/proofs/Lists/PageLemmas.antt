-- Pages join, and what is left begins with the least.
use Rattle.std.proofs.Common.{◌≡◌, ℕ, ◌<◌, zero, suc, true, false, List, [], ◌∷◌, ◌++◌, length, map, drop, inl, inr, Option, None, Some, refl, sym, ap, ◌∙◌, subst, append_assoc, append-nil, take-append-drop}
use Rattle.std.proofs.Math.Seq.{take-add}
use Rattle.std.specs.List.{filter, AllByRecursion as Each}
use Rattle.std.proofs.lemmas.List.Elements.{recursion_from_All}
use Rattle.ac_query.specs.Asked.{Asked, slots_of}
use Rattle.ac_cloud.specs.World.{Provider, id_at}
use Rattle.ac_rules.specs.Lists.{IsListBelow, IsRising, lex_lt}
use Rattle.ac_rules.specs.Pages.{candidates, ids_of, is_after, rest, cut}
use Rattle.ac_rules.specs.Laws.{AreInOrder, PagesJoin, both_limits, IsLeastAfter, RestBegins}
use Rattle.ac_rules.proofs.Elements.{Among, among_right, filter_twice, filter_agree, filter_all, each_weaker, each_all, each_both, each_among, each_map}
use Rattle.ac_rules.proofs.Lists.OrderLemmas.{lex_irrefl, lex_asym, lex_trans, lex_map}
use Rattle.ac_rules.proofs.Lists.RestLemmas.{IsChosen, IsLeft, each_candidate, each_rest, among_rest, rising_candidates, rising_rest}

-- lists of providers are ordered as their ids
pub same_order : (all : List Provider) → AreInOrder all → (k : ℕ) (t u : List ℕ) → IsListBelow (length all) k t → IsListBelow (length all) k u
    → lex_lt (ids_of all t) (ids_of all u) ≡ lex_lt t u
same_order all order k t u h j = lex_map (λ ix. id_at all ix) (length all) order t u
    (recursion_from_All (λ p. p < length all) t h.below) (recursion_from_All (λ p. p < length all) u j.below)

-- what is after z in a rising list is what stands behind it
after_place : (ls before : List (List ℕ)) (z : List ℕ) (ms : List (List ℕ)) → IsRising ls → ls ≡ before ++ z ∷ ms → filter (λ t. lex_lt z t) ls ≡ ms
after_place ls before z ms h e = ap (filter (λ t. lex_lt z t)) e ∙ go before (subst IsRising e h)
  where
    go : (front : List (List ℕ)) → IsRising (front ++ z ∷ ms) → filter (λ t. lex_lt z t) (front ++ z ∷ ms) ≡ ms
    go [] r = rw (lex_irrefl z) (filter_all (λ t. lex_lt z t) ms r.0)
    go (x ∷ front) r =
        let up = each_among (λ y. lex_lt x y ≡ true) (front ++ z ∷ ms) z r.0 (among_right front (z ∷ ms) z (inl refl)) in
        rw (lex_asym x z up) (go front r.1)

-- what a cut leaves
behind_cut : Option ℕ → List (List ℕ) → List (List ℕ)
behind_cut None ls = []
behind_cut (Some n) ls = drop n ls

cut_whole : (n : Option ℕ) (ls : List (List ℕ)) → ls ≡ cut n ls ++ behind_cut n ls
unfolding behind_cut
cut_whole None ls = sym (append-nil ls)
cut_whole (Some n) ls = sym (take-append-drop n ls)

cut_nil : (m : Option ℕ) → cut m [] ≡ []
cut_nil None = refl
cut_nil (Some zero) = refl
cut_nil (Some (suc m)) = refl

cut_twice : (n m : Option ℕ) (ls : List (List ℕ)) → cut n ls ++ cut m (behind_cut n ls) ≡ cut (both_limits n m) ls
unfolding behind_cut
cut_twice None m ls = rw (cut_nil m) (append-nil ls)
cut_twice (Some n) None ls = take-append-drop n ls
cut_twice (Some n) (Some m) ls = sym (take-add n m ls)

-- after a list that is left come those behind it
rest_after : (all : List Provider) → AreInOrder all → (asked : Asked) (x : Option (List ℕ)) (z : List ℕ) (before ms : List (List ℕ))
    → rest all asked x ≡ before ++ z ∷ ms → rest all asked (Some (ids_of all z)) ≡ ms
unfolding rest
rest_after all order asked x z before ms e =
    let ls = rest all asked x in
    let k = length (slots_of asked) in
    let here : IsLeft all asked x z = each_among (IsLeft all asked x) ls z (each_rest all asked x) (subst (λ (l : List (List ℕ)). Among l z) (sym e) (among_right before (z ∷ ms) z (inl refl))) in
    let test = λ (t : List ℕ). is_after all (Some (ids_of all z)) t in
    let later : (y : Option (List ℕ)) → is_after all y z ≡ true → (t : List ℕ) → lex_lt (ids_of all z) (ids_of all t) ≡ true → is_after all y t ≡ true =
    after_later all z in
    sym (filter_twice test (λ t. is_after all x t) (candidates all asked) (each_all (λ t. test t ≡ true → is_after all x t ≡ true) (candidates all asked) (later x here.after)))
    ∙ (filter_agree test (λ t. lex_lt z t) ls
    (each_weaker (IsLeft all asked x) (λ t. test t ≡ lex_lt z t) ls (λ t h. same_order all order k z t here.chosen.list h.chosen.list) (each_rest all asked x))
    ∙ after_place ls before z ms (rising_rest all asked x) e)
  where
    after_later : (all : List Provider) (z : List ℕ) (y : Option (List ℕ)) → is_after all y z ≡ true → (t : List ℕ) → lex_lt (ids_of all z) (ids_of all t) ≡ true → is_after all y t ≡ true
    after_later all z None h t e = refl
    after_later all z (Some y) h t e = lex_trans y (ids_of all z) (ids_of all t) h e

pub pages_join : PagesJoin
pages_join all order asked x n m before z e =
    let ls = rest all asked x in
    let whole : ls ≡ before ++ z ∷ behind_cut n ls =
    cut_whole n ls ∙ (ap (λ (l : List (List ℕ)). l ++ behind_cut n ls) e ∙ append_assoc before (z ∷ []) (behind_cut n ls)) in
    let same : rest all asked (Some (ids_of all z)) ≡ behind_cut n ls = rest_after all order asked x z before (behind_cut n ls) whole in
    ap (λ (l : List (List ℕ)). cut n ls ++ cut m l) same ∙ cut_twice n m ls

-- rising lists of providers have rising ids
rising_ids : (all : List Provider) → AreInOrder all → (k : ℕ) (ls : List (List ℕ)) → Each (IsListBelow (length all) k) ls → IsRising ls → IsRising (map (λ t. ids_of all t) ls)
rising_ids all order k [] each h = tt
rising_ids all order k (t ∷ ls) each h = (
  each_map (λ i. lex_lt (ids_of all t) i ≡ true) (λ u. ids_of all u) ls
      (each_weaker _ (λ u. lex_lt (ids_of all t) (ids_of all u) ≡ true) ls (λ u b. same_order all order k t u each.0 b.0 ∙ b.1)
      (each_both (IsListBelow (length all) k) (λ u. lex_lt t u ≡ true) ls each.1 h.0)),
  rising_ids all order k ls each.1 h.1,
)

pub rest_begins : (all : List Provider) → AreInOrder all → (asked : Asked) → RestBegins all asked
rest_begins all order asked = record {
  rising = rising_ids all order k (candidates all asked)
      (each_weaker (IsChosen all asked) (IsListBelow (length all) k) (candidates all asked) (λ t h. h.list) (each_candidate all asked))
      (rising_candidates all asked);
  first = begins;
}
  where
    k : ℕ
    k = length (slots_of asked)

    begins : (x : Option (List ℕ)) (y : List ℕ) (more : List (List ℕ)) → rest all asked x ≡ y ∷ more → IsLeastAfter all asked x y
    begins x y more e =
        let first : IsLeft all asked x y = (subst (Each (IsLeft all asked x)) e (each_rest all asked x)).0 in
        let up = subst IsRising e (rising_rest all asked x) in
        record {
          list = first.chosen.list;
          candidate = first.chosen.candidate;
          after = first.after;
          least = λ t l c a.
              elim (subst (λ (ls : List (List ℕ)). Among ls t) e (among_rest all asked x t (record { chosen = record { list = l; candidate = c }; after = a }))) [
                | inl same ↦ subst (λ (u : List ℕ). lex_lt (ids_of all u) (ids_of all y) ≡ false) same (lex_irrefl (ids_of all y))
                | inr later ↦
                    same_order all order (length (slots_of asked)) t y l first.chosen.list
                    ∙ lex_asym y t (each_among (λ u. lex_lt y u ≡ true) more t up.0 later)
              ];
        }
