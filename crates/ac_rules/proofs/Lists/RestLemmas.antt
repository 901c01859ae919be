-- The candidates after a list of ids: in order, each once, and what each of them is.
use Rattle.std.proofs.Common.{◌≡◌, ℕ, true, List, length, Option}
use Rattle.std.specs.List.{AllByRecursion as Each}
use Rattle.ac_query.specs.Asked.{Asked, slots_of}
use Rattle.ac_cloud.specs.World.{Provider}
use Rattle.ac_rules.specs.Lists.{all_lists, IsListBelow, IsRising}
use Rattle.ac_rules.specs.Judge.{is_candidate}
use Rattle.ac_rules.specs.Pages.{candidates, is_after, rest}
use Rattle.ac_rules.proofs.Elements.{Among, each_filter, each_weaker, among_filter}
use Rattle.ac_rules.proofs.Lists.ListLemmas.{rising_all_lists, rising_filter, each_all_lists, among_all_lists}

pub record IsChosen (all : List Provider) (asked : Asked) (t : List ℕ) : Type 0 where
  pub list : IsListBelow (length all) (length (slots_of asked)) t
  pub candidate : is_candidate all asked t ≡ true

pub record IsLeft (all : List Provider) (asked : Asked) (x : Option (List ℕ)) (t : List ℕ) : Type 0 where
  pub chosen : IsChosen all asked t
  pub after : is_after all x t ≡ true

pub each_candidate : (all : List Provider) (asked : Asked) → Each (IsChosen all asked) (candidates all asked)
unfolding candidates
each_candidate all asked =
    let n = length all in
    let k = length (slots_of asked) in
    each_weaker _ (IsChosen all asked) (candidates all asked) (λ t h. record { list = h.1; candidate = h.0 })
    (each_filter (IsListBelow n k) (λ t. is_candidate all asked t) (all_lists n k) (each_all_lists n k))

pub each_rest : (all : List Provider) (asked : Asked) (x : Option (List ℕ)) → Each (IsLeft all asked x) (rest all asked x)
unfolding rest
each_rest all asked x = each_weaker _ (IsLeft all asked x) (rest all asked x) (λ t h. record { chosen = h.1; after = h.0 })
    (each_filter (IsChosen all asked) (λ t. is_after all x t) (candidates all asked) (each_candidate all asked))

pub among_candidates : (all : List Provider) (asked : Asked) (t : List ℕ) → IsChosen all asked t → Among (candidates all asked) t
unfolding candidates
among_candidates all asked t h =
    among_filter (λ t. is_candidate all asked t) (all_lists (length all) (length (slots_of asked))) t
    (among_all_lists (length all) (length (slots_of asked)) t h.list) h.candidate

pub among_rest : (all : List Provider) (asked : Asked) (x : Option (List ℕ)) (t : List ℕ) → IsLeft all asked x t → Among (rest all asked x) t
unfolding rest
among_rest all asked x t h = among_filter (λ t. is_after all x t) (candidates all asked) t (among_candidates all asked t h.chosen) h.after

pub rising_candidates : (all : List Provider) (asked : Asked) → IsRising (candidates all asked)
unfolding candidates
rising_candidates all asked =
    rising_filter (λ t. is_candidate all asked t) (all_lists (length all) (length (slots_of asked))) (rising_all_lists (length all) (length (slots_of asked)))

pub rising_rest : (all : List Provider) (asked : Asked) (x : Option (List ℕ)) → IsRising (rest all asked x)
unfolding rest
rising_rest all asked x = rising_filter (λ t. is_after all x t) (candidates all asked) (rising_candidates all asked)
