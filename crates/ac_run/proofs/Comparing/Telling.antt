-- What is told of lists and texts, one after another.
use Rattle.std.proofs.Common.{ap, ◌≡◌, ◌∙◌, ◌∷◌, ◌++◌, ◌+◌, ◌&&◌, ◌≤◌, ℕ, Bool, true, false, not, max, List, [], map, fold, length, Option, Result, Ok, Err, append-nil, append_assoc, refl, sym, subst, arith, if◌then◌else◌}
use Rattle.std.specs.BTreeSet.{insert_key}
use Rattle.std.specs.List.{filter}
use Rattle.std.specs.Result.{IsErrAnd}
use Rattle.ac_base.specs.Texts.{text_cmp}
use Rattle.ac_cloud.specs.World.{Provider}
use Rattle.ac_query.specs.Asked.{Asked}
use Rattle.ac_report.specs.declared.fault.PageFault.{PageFault}
use Rattle.ac_report.specs.Outcomes.{WritesEach}
use Rattle.ac_report.specs.Texts.{request_text}
use Rattle.ac_report.proofs.Pages.Writing.{may_weaker, stopped, wrote_none, wrote_on}
use Rattle.ac_run.specs.Compared.{count_known, here_line, lines_here, lines_there, status_of, there_line}

-- ---- what is written

module _ {S Z : Type 0} {taken : S → Option (List ℕ)} {fails : S → ℕ} {first_may may : Type 0} {a b : S} (xs ys : List (List ℕ)) {told : List (List ℕ)} (is : told ≡ xs ++ ys) where
  -- the first lines are written, and then the others are
  pub writes_next : {X last_may : Type 0} {c : S} {z : Z} {r : Result X PageFault} → (last_may → may) → WritesEach taken fails first_may a b (Ok z) (λ t. t) xs
      → WritesEach taken fails last_may b c r (λ t. t) ys → WritesEach taken fails may a c r (λ t. t) told
  writes_next {c = c} {r = r} so first later = subst (WritesEach taken fails may a c r (λ t. t)) (sym is) (wrote_on (λ t. t) xs first (may_weaker so later))

  -- an error within the first lines is handed on
  pub stops_next : {X : Type 0} {e : PageFault} {r : Result X PageFault} → (first_may → may) → WritesEach {X = Z} taken fails first_may a b (Err e) (λ t. t) xs → IsErrAnd r (λ d. d ≡ e)
      → WritesEach taken fails may a b r (λ t. t) told
  stops_next {r = r} so first h = subst (WritesEach taken fails may a b r (λ t. t)) (sym is) (stopped (λ t. t) xs ys first so h)

-- three parts of what is told, written one after another
module _ {S : Type 0} {taken : S → Option (List ℕ)} {fails : S → ℕ} {may : Type 0} (xs ys zs : List (List ℕ)) {told : List (List ℕ)} (same : (xs ++ ys) ++ zs ≡ told) {a b : S} where
  -- an error within the first part, within the second, and within the third
  pub fails_first : {Z X : Type 0} {e : PageFault} {r : Result X PageFault} → WritesEach {X = Z} taken fails may a b (Err e) (λ t. t) xs → IsErrAnd r (λ d. d ≡ e) → WritesEach taken fails may a b r (λ t. t) told
  fails_first first h = stops_next xs (ys ++ zs) (sym same ∙ append_assoc xs ys zs) (λ m. m) first h

  module _ {Z : Type 0} {c : S} {z : Z} (first : WritesEach taken fails may a b (Ok z) (λ t. t) xs) where
    two_parts : {Y : Type 0} {r : Result Y PageFault} → WritesEach taken fails ⊥ b c r (λ t. t) ys → WritesEach taken fails may a c r (λ t. t) (xs ++ ys)
    two_parts second = writes_next xs ys refl (λ never. absurd never) first second

    pub fails_second : {Y X : Type 0} {e : PageFault} {r : Result X PageFault} → WritesEach {X = Y} taken fails ⊥ b c (Err e) (λ t. t) ys → IsErrAnd r (λ d. d ≡ e) → WritesEach taken fails may a c r (λ t. t) told
    fails_second second h = stops_next (xs ++ ys) zs (sym same) (λ m. m) (two_parts second) h

    module _ {Y : Type 0} {d : S} {y : Y} (second : WritesEach taken fails ⊥ b c (Ok y) (λ t. t) ys) where
      three_parts : {V : Type 0} {r : Result V PageFault} → WritesEach taken fails ⊥ c d r (λ t. t) zs → WritesEach taken fails may a d r (λ t. t) told
      three_parts third = writes_next (xs ++ ys) zs (sym same) (λ never. absurd never) (two_parts second) third

      pub fails_third : {V X : Type 0} {e : PageFault} {r : Result X PageFault} → WritesEach {X = V} taken fails ⊥ c d (Err e) (λ t. t) zs → IsErrAnd r (λ d. d ≡ e) → WritesEach taken fails may a d r (λ t. t) told
      fails_third third h = stops_next told [] (sym (append-nil told)) (λ m. m) (three_parts third) h

      -- all of it, with any answer
      pub all_parts : {V X : Type 0} {v : V} (x : X) → WritesEach taken fails ⊥ c d (Ok v) (λ t. t) zs → WritesEach taken fails may a d (Ok x) (λ t. t) told
      all_parts x third = writes_next told [] (sym (append-nil told)) (λ m. m) (three_parts third) (wrote_none (λ t. t) [] d x refl)

-- ---- the status

-- it is 0 or 1
pub status_small : (xs : List (List ℕ)) → status_of xs ≤ 1
status_small [] = omega arith
status_small (x ∷ xs) = omega arith

-- the status by some lines and by others
pub status_both : (xs ys : List (List ℕ)) → status_of (xs ++ ys) ≡ max (status_of xs) (status_of ys)
status_both [] ys = omega arith
status_both (x ∷ xs) ys = omega (arith, status_small ys)

-- ---- lists

-- of no list there is no line
pub here_none : (whole : Bool) (known : List ℕ → Bool) (all : List Provider) (asked : Asked) (lists : List (List ℕ)) → lists ≡ [] → lines_here whole known all asked lists ≡ []
here_none false known all asked lists none = refl
here_none true known all asked lists none = rw none refl

module _ (known : List ℕ → Bool) (all : List Provider) (asked : Asked) (list : List ℕ) where
  status_one : (whole : Bool) → status_of (lines_here whole known all asked (list ∷ [])) ≡ (if whole && not (known (request_text all asked list)) then 1 else 0)
  status_one false = refl
  status_one true = by_known (known (request_text all asked list))
    where
      by_known : (b : Bool) → status_of (map (here_line all) (if not b then list ∷ [] else [])) ≡ (if not b then 1 else 0)
      by_known true = refl
      by_known false = refl

  here_next : (whole : Bool) (rest : List (List ℕ)) → lines_here whole known all asked (list ∷ rest) ≡ lines_here whole known all asked (list ∷ []) ++ lines_here whole known all asked rest
  here_next false rest = refl
  here_next true rest = by_known (known (request_text all asked list))
    where
      others : List (List ℕ)
      others = filter (λ l. not (known (request_text all asked l))) rest

      by_known : (b : Bool) → map (here_line all) (if not b then list ∷ others else others) ≡ map (here_line all) (if not b then list ∷ [] else []) ++ map (here_line all) others
      by_known true = refl
      by_known false = refl

  count_next : (rest : List (List ℕ)) → count_known known all asked (list ∷ rest) ≡ (if known (request_text all asked list) then 1 else 0) + count_known known all asked rest
  count_next rest = by_known (known (request_text all asked list))
    where
      others : List (List ℕ)
      others = filter (λ l. known (request_text all asked l)) rest

      by_known : (b : Bool) → length (if b then list ∷ others else others) ≡ (if b then 1 else 0) + length others
      by_known true = omega arith
      by_known false = omega arith

  met_next : (met rest : List (List ℕ)) → fold (insert_key text_cmp) (if known (request_text all asked list) then insert_key text_cmp met (request_text all asked list) else met) (filter known (map (request_text all asked) rest))
      ≡ fold (insert_key text_cmp) met (filter known (map (request_text all asked) (list ∷ rest)))
  met_next met rest = by_known (known (request_text all asked list))
    where
      others : List (List ℕ)
      others = filter known (map (request_text all asked) rest)

      by_known : (b : Bool)
          → fold (insert_key text_cmp) (if b then insert_key text_cmp met (request_text all asked list) else met) others ≡ fold (insert_key text_cmp) met (if b then request_text all asked list ∷ others else others)
      by_known true = refl
      by_known false = refl

  -- lists, of which this is the first
  module _ (lists rest : List (List ℕ)) (first : lists ≡ list ∷ rest) where
    -- its line, and those of the others
    pub here_on : (whole : Bool) → lines_here whole known all asked lists ≡ lines_here whole known all asked (list ∷ []) ++ lines_here whole known all asked rest
    here_on whole = ap (lines_here whole known all asked) first ∙ here_next whole rest

    module _ (k : Bool) (tells : k ≡ known (request_text all asked list)) where
      -- it is one more, if it is known
      pub count_on : count_known known all asked lists ≡ (if k then 1 else 0) + count_known known all asked rest
      count_on = ap (count_known known all asked) first ∙ count_next rest ∙ ap (λ b. (if b then 1 else 0) + count_known known all asked rest) (sym tells)

      -- the status by its line and those of the others
      pub status_on : (whole : Bool) → status_of (lines_here whole known all asked lists) ≡ max (if whole && not k then 1 else 0) (status_of (lines_here whole known all asked rest))
      status_on whole =
          ap status_of (here_on whole)
          ∙ status_both (lines_here whole known all asked (list ∷ [])) (lines_here whole known all asked rest)
          ∙ ap (λ n. max n (status_of (lines_here whole known all asked rest))) (status_one whole ∙ ap (λ b. if whole && not b then 1 else 0) (sym tells))

      -- the texts that are met with it, and then with the others
      pub met_on : (met more : List (List ℕ)) → more ≡ (if k then insert_key text_cmp met (request_text all asked list) else met)
          → fold (insert_key text_cmp) more (filter known (map (request_text all asked) rest)) ≡ fold (insert_key text_cmp) met (filter known (map (request_text all asked) lists))
      met_on met more is =
          ap (λ ks. fold (insert_key text_cmp) ks (filter known (map (request_text all asked) rest))) (is ∙ ap (λ b. if b then insert_key text_cmp met (request_text all asked list) else met) tells)
          ∙ met_next met rest
          ∙ ap (λ ls. fold (insert_key text_cmp) met (filter known (map (request_text all asked) ls))) (sym first)

-- ---- texts

-- the line of a text, and those of others
pub there_next : (ours : List ℕ → Bool) (t : List ℕ) (ts : List (List ℕ)) → lines_there ours (t ∷ ts) ≡ lines_there ours (t ∷ []) ++ lines_there ours ts
there_next ours t ts = by_ours (ours t)
  where
    rest : List (List ℕ)
    rest = filter (λ u. not (ours u)) ts

    by_ours : (b : Bool) → map there_line (if not b then t ∷ rest else rest) ≡ map there_line (if not b then t ∷ [] else []) ++ map there_line rest
    by_ours true = refl
    by_ours false = refl
