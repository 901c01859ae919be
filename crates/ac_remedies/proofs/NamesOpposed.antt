-- The names that a list forbids, gathered item by item, and which of its items is one of them.
use Rattle.std.proofs.lemmas.Cmp.{nat_list_cmp_total}
use Rattle.std.proofs.lemmas.Grind.{common_steps}
use Rattle.std.proofs.lemmas.Map.Text.{is_eq-slice_cmp}
use Rattle.std.proofs.Common.{◌≡◌, ◌∙◌, ℕ, List, ◌∷◌, Option, Some, None, map, refl, ap, arith, bytes_eq}
use Rattle.std.specs.Borrow.{Bor}
use Rattle.std.specs.BTreeMap.{is_at}
use Rattle.std.specs.List.{filter_map, list_any}
use Rattle.ac_base.proofs.Sorted.SameItems.{any_rising}
use Rattle.ac_base.proofs.Sorted.SearchFacts.{any_map, any_same}
use Rattle.ac_base.specs.Sorted.{rising}
use Rattle.ac_base.specs.Texts.{text_cmp}
use Rattle.ac_query.specs.Texts.{has_text}

module _ {X Y : Type 0} (f : X → Option Y) (left rest : List X) (x : X) (turn : left ≡ x ∷ rest) where
  pub kept : (y : Y) → Some y ≡ f x → y ∷ filter_map f rest ≡ filter_map f left
  kept y is = grind (arith, common_steps)

  pub passed : None ≡ f x → filter_map f rest ≡ filter_map f left
  passed is = grind (arith, common_steps)

pub among_keys : (q : List ℕ) (keys : List (Bor (List ℕ))) (names : List (List ℕ)) → map (λ k. k.now) keys ≡ rising text_cmp names
    → list_any (λ k. is_at (text_cmp q) k.now) keys ≡ has_text names q
among_keys q keys names are =
    any_map (λ k. is_at (text_cmp q) k.now) (is_at (text_cmp q)) (λ k. k.now) (λ _. refl) keys
    ∙ ap (list_any (is_at (text_cmp q))) are
    ∙ any_rising nat_list_cmp_total q names
    ∙ any_same (is_at (text_cmp q)) (bytes_eq q) (is_eq-slice_cmp q) names
