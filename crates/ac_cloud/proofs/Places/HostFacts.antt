-- The only place among those that pass a test, found by going through all.
use Rattle.ac_cloud.proofs.Common.{◌≡◌, ◌∙◌, ◌<◌, ◌+◌, ◌-◌, ◌++◌, ℕ, zero, suc, Bool, true, false, List, [], ◌∷◌, Option, Some, None, Err, sym, ap, arith, is_some, filter, range_with_len, map-id, append-nil, append_assoc}
use Rattle.std.specs.Option.{ok_or, option_to_list}
use Rattle.std.proofs.lemmas.List.Elements.{filter-append}
use Rattle.std.proofs.lemmas.List.FromFn.{map-range_with_len_more}
use Rattle.ac_cloud.specs.Cloud.Hosts.{only_one}
use Rattle.ac_cloud.specs.declared.cloud.provider_name.HostFault.TheVariants as fault
use Rattle.std.proofs.lemmas.Grind.{common_steps}

range_more : (n : ℕ) → range_with_len 0 (n + 1) ≡ range_with_len 0 n ++ n ∷ []
range_more n = sym (map-id (range_with_len 0 (n + 1))) ∙ map-range_with_len_more (λ (x : ℕ). x) 0 n n (omega arith) ∙ ap (λ (l : List ℕ). l ++ n ∷ []) (map-id (range_with_len 0 n))

module _ (test : ℕ → Bool) where
  step : (n : ℕ) → filter test (range_with_len 0 (n + 1)) ≡ filter test (range_with_len 0 n) ++ filter test (n ∷ [])
  step n = ap (filter test) (range_more n) ∙ filter-append test (range_with_len 0 n) (n ∷ [])

  -- a place that fails the test
  pub place_fails : (n : ℕ) (found new : Option ℕ) → filter test (range_with_len 0 n) ≡ option_to_list found → test n ≡ false → new ≡ found → filter test (range_with_len 0 (n + 1)) ≡ option_to_list new
  place_fails n found new is fails same = step n ∙ rw fails (append-nil (filter test (range_with_len 0 n)) ∙ is ∙ ap option_to_list (sym same))

  -- the first that passes it
  pub first_passes : (n : ℕ) (found new : Option ℕ) → filter test (range_with_len 0 n) ≡ option_to_list found → test n ≡ true → is_some found ≡ false → new ≡ Some n → filter test (range_with_len 0 (n + 1)) ≡ option_to_list new
  first_passes n None new is passes none same = step n ∙ rw passes (ap (λ (l : List ℕ). l ++ n ∷ []) is ∙ ap option_to_list (sym same))
  first_passes n (Some first) new is passes none same = absurd (cc)

  front : (n more : ℕ) → (rest : List ℕ) × (filter test (range_with_len 0 (n + more)) ≡ filter test (range_with_len 0 n) ++ rest)
  front n zero = ([], ap (λ (k : ℕ). filter test (range_with_len 0 k)) (omega arith) ∙ sym (append-nil (filter test (range_with_len 0 n))))
  front n (suc more) =
      let r = front n more in (
        r.0 ++ filter test ((n + more) ∷ []),
        ap (λ (k : ℕ). filter test (range_with_len 0 k)) (omega arith) ∙ step (n + more) ∙ ap (λ (l : List ℕ). l ++ filter test ((n + more) ∷ [])) r.1
            ∙ append_assoc (filter test (range_with_len 0 n)) r.0 (filter test ((n + more) ∷ [])),
      )

  -- a second that passes it, after which there may be more
  pub second_passes : (n count : ℕ) (found : Option ℕ) → n < count → filter test (range_with_len 0 n) ≡ option_to_list found → test n ≡ true → is_some found ≡ true → Err fault.Ambiguous ≡ only_one (filter test (range_with_len 0 count))
  second_passes n count None h is passes some = absurd (cc)
  second_passes n count (Some first) h is passes some =
      let r = front (n + 1) (count - (n + 1)) in
      let two : filter test (range_with_len 0 (n + 1)) ≡ first ∷ n ∷ [] = step n ∙ rw passes (ap (λ (l : List ℕ). l ++ n ∷ []) is) in
      sym (ap (λ (k : ℕ). only_one (filter test (range_with_len 0 k))) (omega arith) ∙ ap only_one (r.1 ∙ ap (λ (l : List ℕ). l ++ r.0) two))

  -- what is found of all is the only one
  pub all_tested : (n count : ℕ) (found : Option ℕ) → n ≡ count → filter test (range_with_len 0 n) ≡ option_to_list found → ok_or found fault.Unknown ≡ only_one (filter test (range_with_len 0 count))
  all_tested n count found all is = found_is found ∙ ap only_one (sym is) ∙ ap (λ (k : ℕ). only_one (filter test (range_with_len 0 k))) all
    where
      found_is : (o : Option ℕ) → ok_or o fault.Unknown ≡ only_one (option_to_list o)
      found_is o = grind (arith, common_steps)
