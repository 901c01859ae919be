-- What lies between a token's ids and a list.
use Rattle.std.proofs.Common.{◌≡◌, ℕ, ◌+◌, ◌<◌, ◌&&◌, zero, suc, Bool, not, List, [], ◌∷◌, ◌++◌, inl, inr, length, take, Option, None, Some, refl, sym, ap, ap₂, ◌∙◌, arith, length-append}
use Rattle.std.specs.List.{flat_map, range_with_len, AllByRecursion as Each}
use Rattle.std.proofs.lemmas.Bool.{cases_Bool}
use Rattle.ac_query.specs.Asked.{Asked, slots_of}
use Rattle.ac_cloud.specs.World.{Provider}
use Rattle.ac_rules.specs.Lists.{lex_lt}
use Rattle.ac_rules.specs.Judge.{is_open}
use Rattle.ac_rules.specs.Laws.{AreInOrder}
use Rattle.ac_search.specs.Search.{below, is_up_to, is_between, between}
use Rattle.ac_prune.specs.QuerySearch.{search_of}
use Rattle.ac_search.specs.Between.{least_of, is_from, open_between}
use Rattle.ac_rules.proofs.Elements.{each_append}
use Rattle.ac_rules.proofs.EachSlot.AnchorLemmas.{each_range}
use Rattle.ac_search.proofs.Search.LeastLemmas.{before_least, cut_nil}

-- two tests that agree on lists of fewer than k numbers below n
below_agree : (f g : List ℕ → Bool) (n k h : ℕ) (q : List ℕ) → ((w : List ℕ) → length w < k → Each (λ p. p < n) w → f w ≡ g w) → length q + h ≡ k → Each (λ p. p < n) q
    → below f n h q ≡ below g n h q
below_agree f g n k zero q same size low = refl
below_agree f g n k (suc h) q same size low =
    let here : f q ≡ g q = same q (omega arith) low in
    elim (cases_Bool (g q)) [
      | inl e ↦ rw (here ∙ e, e) (ap (λ ls. q ∷ ls) (under (λ r. below_agree f g n k h r same) (range_with_len 0 n) (each_range 0 n n (omega arith))))
      | inr e ↦ rw (here ∙ e, e) refl
    ]
  where
    under : ((r : List ℕ) → length r + h ≡ k → Each (λ p. p < n) r → below f n h r ≡ below g n h r) → (ps : List ℕ) → Each (λ p. p < n) ps
        → flat_map (λ p. below f n h (q ++ p ∷ [])) ps ≡ flat_map (λ p. below g n h (q ++ p ∷ [])) ps
    under more [] b = refl
    under more (p ∷ ps) b =
        ap₂ (λ a c. a ++ c) (more (q ++ p ∷ []) (omega (arith, size, length-append q (p ∷ []))) (each_append (λ r. r < n) q (p ∷ []) low (b.0, tt))) (under more ps b.1)

-- what lies between the least list of a token and another is what lies between the token's ids and that one
pub between_by_ids : (all : List Provider) → AreInOrder all → (asked : Asked) (ids y : Option (List ℕ))
    → between (search_of all asked) (least_of all (length (slots_of asked)) ids) y ≡ open_between all asked ids y
between_by_ids all order asked ids y =
    below_agree (λ q. is_between (search_of all asked) (least_of all k ids) y q) (λ q. is_open all asked q && (is_from all ids q && is_up_to y q)) (length all) k k []
    (λ w short low. ap (λ (b : Bool). is_open all asked w && (b && is_up_to y w)) (same ids w short low)) (omega arith) tt
  where
    k : ℕ
    k = length (slots_of asked)

    same : (x : Option (List ℕ)) (w : List ℕ) → length w < k → Each (λ p. p < length all) w → not (lex_lt w (take (length w) (least_of all k x))) ≡ is_from all x w
    same None w short low = rw (cut_nil w (length w)) refl
    same (Some x) w short low = ap not (sym (before_least all order k x w short low))
