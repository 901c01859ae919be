-- The lists that have fewer numbers than slots, and which of them lie between two lists.
use Rattle.std.proofs.Common.{◌≡◌, ℕ, ◌<◌, zero, suc, Bool, true, false, List, [], ◌∷◌, ◌++◌, inl, inr, length, map, refl, sym, ap, ◌∙◌, arith, length-append, append_assoc, append-nil}
use Rattle.std.specs.List.{flat_map, filter, range_with_len, AllByRecursion as Each}
use Rattle.std.proofs.lemmas.List.Elements.{filter-append}
use Rattle.std.proofs.lemmas.Bool.{cases_Bool, false≢true, false_from_ne_true}
use Rattle.ac_search.specs.Search.{all_shorter, below}
use Rattle.ac_rules.proofs.Elements.{Among, each_all, each_weaker, among_map, among_flat_map, filter_agree, filter_none}
use Rattle.ac_rules.proofs.Lists.ListLemmas.{among_range, each_under}

pub among_all_shorter : (n h : ℕ) (t : List ℕ) → length t < h → Each (λ p. p < n) t → Among (all_shorter n h) t
among_all_shorter n zero t e b = absurd (omega arith)
among_all_shorter n (suc h) [] e b = inl refl
among_all_shorter n (suc h) (p ∷ t) e b = inr (among_flat_map (λ p. map (λ t. p ∷ t) (all_shorter n h)) (range_with_len 0 n) p (p ∷ t) (among_range 0 n p (omega arith) (let q : p < n = b.0 in omega arith)) (among_map (λ t. p ∷ t) (all_shorter n h) t (among_all_shorter n h t (omega arith) b.1)))

pub each_all_shorter : (n h : ℕ) → Each (λ t. length t < h) (all_shorter n h)
each_all_shorter n zero = tt
each_all_shorter n (suc h) = (omega arith, each_under (λ t. length t < suc h) (all_shorter n h) 0 n (λ p low high. each_weaker (λ t. length t < h) (λ t. length (p ∷ t) < suc h) (all_shorter n h) (λ t q. omega arith) (each_all_shorter n h)))

count_map : {X Y : Type 0} (f : Y → Bool) (g : X → Y) (xs : List X) → length (filter f (map g xs)) ≡ length (filter (λ x. f (g x)) xs)
count_map f g [] = refl
count_map f g (x ∷ xs) = grind (arith, count_map f g xs)

-- what is below q are the lists that go on from q and pass
pub length-below : (ok : List ℕ → Bool) (n : ℕ) → ((q w : List ℕ) → ok (q ++ w) ≡ true → ok q ≡ true) → (h : ℕ) (q : List ℕ) → length (below ok n h q) ≡ length (filter (λ w. ok (q ++ w)) (all_shorter n h))
length-below ok n closed zero q = refl
length-below ok n closed (suc h) q = elim (cases_Bool (ok q)) [
  | inl e ↦ rw (e, append-nil q, e) (ap suc (under (λ r. length-below ok n closed h r) (range_with_len 0 n)))
  | inr e ↦ rw e (sym (ap length (filter_none (λ w. ok (q ++ w)) (all_shorter n (suc h)) (each_all (λ w. ok (q ++ w) ≡ false) (all_shorter n (suc h)) (λ w. false_from_ne_true _ (λ t. false≢true (sym e ∙ closed q w t)))))))
]
  where
    under : ((r : List ℕ) → length (below ok n h r) ≡ length (filter (λ w. ok (r ++ w)) (all_shorter n h))) → (ps : List ℕ) → length (flat_map (λ p. below ok n h (q ++ p ∷ [])) ps) ≡ length (filter (λ w. ok (q ++ w)) (flat_map (λ p. map (λ t. p ∷ t) (all_shorter n h)) ps))
    under f [] = refl
    under f (p ∷ ps) =
        let here : length (below ok n h (q ++ p ∷ [])) ≡ length (filter (λ w. ok (q ++ w)) (map (λ t. p ∷ t) (all_shorter n h))) =
        f (q ++ p ∷ [])
        ∙ ap length (filter_agree (λ w. ok ((q ++ p ∷ []) ++ w)) (λ w. ok (q ++ p ∷ w)) (all_shorter n h) (each_all (λ w. ok ((q ++ p ∷ []) ++ w) ≡ ok (q ++ p ∷ w)) (all_shorter n h) (λ w. ap ok (append_assoc q (p ∷ []) w))))
        ∙ sym (count_map (λ w. ok (q ++ w)) (λ t. p ∷ t) (all_shorter n h)) in
        let rest = under f ps in
        rw (filter-append (λ w. ok (q ++ w)) (map (λ t. p ∷ t) (all_shorter n h)) (flat_map (λ p. map (λ t. p ∷ t) (all_shorter n h)) ps))
        (omega (arith, length-append (below ok n h (q ++ p ∷ [])) (flat_map (λ p. below ok n h (q ++ p ∷ [])) ps), length-append (filter (λ w. ok (q ++ w)) (map (λ t. p ∷ t) (all_shorter n h))) (filter (λ w. ok (q ++ w)) (flat_map (λ p. map (λ t. p ∷ t) (all_shorter n h)) ps))))
