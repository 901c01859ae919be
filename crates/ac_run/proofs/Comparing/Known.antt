-- Texts that are known: sets that are shown as texts.
use Rattle.std.proofs.Common.{◌≡◌, ◌≤◌, ◌∙◌, ◌∷◌, ◌++◌, ◌||◌, ℕ, Bool, true, false, true≢false, not, if◌then◌else◌, min, max, List, [], map, length, refl, sym, ap, ap₂}
use Rattle.std.specs.List.{filter, list_any}
use Rattle.std.specs.BTreeMap.{is_at}
use Rattle.std.specs.Str.{bytes_eq}
use Rattle.std.proofs.lemmas.Bool.{or_left, or_right}
use Rattle.std.proofs.lemmas.Map.Text.{is_eq-slice_cmp}
use Rattle.std.proofs.lemmas.Slice.Eq.{bytes_eq-Decides}
use Rattle.ac_base.proofs.Sorted.SearchFacts.{any_map}
use Rattle.ac_base.proofs.Sorted.SameItems.{name_rising}
use Rattle.ac_base.specs.Sorted.{rising}
use Rattle.ac_base.specs.Texts.{text_cmp}
use Rattle.ac_cloud.specs.World.{Provider}
use Rattle.ac_query.specs.Asked.{Asked}
use Rattle.ac_report.specs.Texts.{request_text}
use Rattle.ac_run.specs.Compared.{count_known, differences, is_among, is_whole, lines_here, lines_there, most_told, same_line, status_of, there_line, told_lines, told_status}
use Rattle.ac_run.proofs.Comparing.Telling.{status_both, status_small}

-- a text is in a set where it is one of the texts that its keys show
pub shown_known : {K : Type 0} (shown : K → List ℕ) (t : List ℕ) (keys : List K) → list_any (is_at (λ k. text_cmp t (shown k))) keys ≡ is_among (map shown keys) t
shown_known shown t keys = any_map (is_at (λ k. text_cmp t (shown k))) (bytes_eq t) shown (λ k. is_eq-slice_cmp t (shown k)) keys

-- ---- the same texts, known otherwise

-- of the texts that pass, those are one that are one of all and pass
passed_one : (p : List ℕ → Bool) (xs : List (List ℕ)) (t : List ℕ) → p t ≡ true → is_among (filter p xs) t ≡ is_among xs t
passed_one p [] t passes = refl
passed_one p (x ∷ xs) t passes = by_first (p x) refl (passed_one p xs t passes)
  where
    apart : (b : Bool) → p x ≡ false → bytes_eq t x ≡ b → b ≡ false
    apart true fails same = let e : t ≡ x = (bytes_eq-Decides t x).0 same in absurd (true≢false (sym passes ∙ ap p e ∙ fails))
    apart false fails same = refl

    by_first : (b : Bool) → p x ≡ b → is_among (filter p xs) t ≡ is_among xs t → is_among (if b then x ∷ filter p xs else filter p xs) t ≡ (bytes_eq t x || is_among xs t)
    by_first true is later = ap (λ b. bytes_eq t x || b) later
    by_first false is later = later ∙ ap (λ b. b || is_among xs t) (sym (apart (bytes_eq t x) is refl))

-- tests that agree on some texts fail the same of them
same_failed : (p q : List ℕ → Bool) (ts : List (List ℕ)) → ((t : List ℕ) → is_among ts t ≡ true → p t ≡ q t) → filter (λ t. not (p t)) ts ≡ filter (λ t. not (q t)) ts
same_failed p q [] agree = refl
same_failed p q (t ∷ ts) agree =
    ap₂ (λ b rest. if not b then t ∷ rest else rest) (agree t (or_left _ (is_among ts t) ((bytes_eq-Decides t t).1 refl)))
    (same_failed p q ts (λ u one. agree u (or_right (bytes_eq u t) _ one)))

-- ---- what is told, by sets

-- The texts of an answer as a set, and of its texts those that lists have.
module _ (all : List Provider) (asked : Asked) (lists answer known met : List (List ℕ)) (whole : Bool) (is_set : known ≡ rising text_cmp answer)
    (are_met : met ≡ rising text_cmp (filter (is_among known) (map (request_text all asked) lists))) (is_full : whole ≡ is_whole asked.limit (length answer)) where
  ours : List ℕ → Bool
  ours = is_among (map (request_text all asked) lists)

  same_known : is_among known ≡ is_among answer
  same_known = ap is_among is_set ∙ (λ i t. name_rising t answer i)

  same_there : lines_there (is_among met) known ≡ lines_there ours (rising text_cmp answer)
  unfolding ours
  same_there =
      ap (map there_line) (same_failed (is_among met) ours known (λ t one.
      ap (λ ts. is_among ts t) are_met ∙ name_rising t (filter (is_among known) (map (request_text all asked) lists)) ∙ passed_one (is_among known) (map (request_text all asked) lists) t one))
      ∙ ap (lines_there ours) is_set

  differences_are : lines_here whole (is_among known) all asked lists ++ lines_there (is_among met) known ≡ differences all asked lists answer
  unfolding ours
  differences_are = ap₂ (λ w k. lines_here w k all asked lists ++ lines_there (is_among met) known) is_full same_known ∙ ap (λ ts. lines_here (is_whole asked.limit (length answer)) (is_among answer) all asked lists ++ ts) same_there

  pub told_are : (count : ℕ) → count ≡ min (count_known (is_among known) all asked lists) most_told
      → (lines_here whole (is_among known) all asked lists ++ lines_there (is_among met) known) ++ same_line count ∷ [] ≡ told_lines all asked lists answer
  unfolding told_lines
  told_are count is = ap₂ (λ ts n. ts ++ same_line n ∷ []) differences_are (is ∙ ap (λ k. min (count_known k all asked lists) most_told) same_known)

  pub status_is : (first second : ℕ) → first ≡ status_of (lines_here whole (is_among known) all asked lists) → second ≡ status_of (lines_there (is_among met) known)
      → max first second ≡ told_status all asked lists answer
  unfolding told_status
  status_is first second is are =
      ap₂ max is are ∙ sym (status_both (lines_here whole (is_among known) all asked lists) (lines_there (is_among met) known)) ∙ ap status_of differences_are

pub told_small : (all : List Provider) (asked : Asked) (lists answer : List (List ℕ)) → told_status all asked lists answer ≤ 1
unfolding told_status
told_small all asked lists answer = status_small (differences all asked lists answer)
