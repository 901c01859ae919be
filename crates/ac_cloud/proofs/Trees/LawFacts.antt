-- Chains of parents, and lists that lead up.
use Rattle.ac_cloud.proofs.Common.{◌≡◌, ◌<◌, ◌∙◌, ℕ, zero, suc, true, false, List, [], ◌∷◌, Option, Some, None, sym, ap, inl, inr, get_or, length, ◌==◌, is_some, option_map, unwrap_or, cases_Bool, false≢true, Above, up, climb, top, is_endless, is_in_chain, id_at, parent_of, root_of, providers_of}
use Rattle.ac_cloud.specs.Trees.{LeadsUp}
use Rattle.ac_cloud.specs.Laws.{ChainIsAbove, CloudIsForest, TopIsRoot}
use Rattle.ac_cloud.proofs.Trees.PlaceTrees.{above_climb}
use Rattle.ac_cloud.proofs.Trees.AncestorFacts.{chain_here, chain_ends, chain_goes, chain_last}
use Rattle.ac_cloud.proofs.Places.CloudFacts.{inside, parent_here, root_here, root_inside, parts}
use Rattle.ac_base.proofs.Small.{are_equal, equal, none_is, some_or_none}
use Rattle.ac_cloud.proofs.Roots.{stays}
use Rattle.std.proofs.Common.{arith}
use Rattle.std.proofs.lemmas.Grind.{common_steps}

goes_up : (parent : ℕ → Option ℕ) (p q : ℕ) → parent p ≡ Some q → up parent p ≡ q
goes_up parent p q e = ap (λ (o : Option ℕ). unwrap_or o p) e

chain_above : (parent : ℕ → Option ℕ) (k a b : ℕ) → is_in_chain parent k a b ≡ true → Above parent a b
chain_above parent zero a b h = ([], are_equal b a (sym (chain_last parent a b) ∙ h))
chain_above parent (suc k) a b h = elim (cases_Bool (b == a)) [
  | inl e ↦ ([], are_equal b a e)
  | inr ne ↦ elim (some_or_none (parent b)) [
    | inl p ↦
        let rest = chain_above parent k a p.0 (sym (chain_goes parent k a b p.0 ne p.1) ∙ h) in
        (p.0 ∷ rest.0, (p.1, rest.1))
    | inr none ↦ absurd (false≢true (sym (chain_ends parent (suc k) a b ne none) ∙ h))
  ]
]

above_chain : (parent : ℕ → Option ℕ) (k a b : ℕ) (path : List ℕ) → is_some (parent (climb (up parent) k b)) ≡ false → LeadsUp parent b path a → is_in_chain parent k a b ≡ true
above_chain parent k a b [] ends leads = chain_here parent k a b (equal b a leads)
above_chain parent zero a b (p ∷ path) ends leads = absurd (false≢true (sym ends ∙ ap is_some leads.0))
above_chain parent (suc k) a b (p ∷ path) ends leads = grind (arith, common_steps, cases_Bool, above_chain parent k a p path, chain_here, goes_up)

pub chain_is_above : ChainIsAbove
chain_is_above parent count a b ends = (chain_above parent count a b, λ above. above_chain parent count a b above.0 ends above.1)

only_top : (parent : ℕ → Option ℕ) (k p r : ℕ) (path : List ℕ) → is_some (parent (climb (up parent) k p)) ≡ false → LeadsUp parent p path r → parent r ≡ None → r ≡ climb (up parent) k p
only_top parent k p r [] ends leads none = sym leads ∙ sym (stays parent k p (ap parent leads ∙ none))
only_top parent zero p r (q ∷ path) ends leads none = absurd (false≢true (sym ends ∙ ap is_some leads.0))
only_top parent (suc k) p r (q ∷ path) ends leads none =
    let one : up parent p ≡ q = goes_up parent p q leads.0 in
    only_top parent k q r path (ap (λ (x : ℕ). is_some (parent (climb (up parent) k x))) (sym one) ∙ ends) leads.1 none ∙ ap (climb (up parent) k) (sym one)

pub top_is_root : TopIsRoot
top_is_root parent count p ends =
    (record { above = above_climb parent count p; ends = none_is (parent (top parent count p)) ends }, λ r root. only_top parent count p r root.above.0 ends root.above.1 root.ends)

pub cloud_is_forest : CloudIsForest
cloud_is_forest c ix h =
    let all = providers_of c in
    let id = id_at all ix in
    let k : ix < length c.ids.ids.items = inside c ix h in
    let none : parent_of all (root_of all id) ≡ None =
    ap (parent_of all) (sym (root_here c ix k)) ∙ parent_here c (get_or c.roots.items ix 0) (root_inside c ix k)
    ∙ ap (option_map (λ j. get_or c.ids.ids.items j 0)) ((parts c).forest.ends ix k) in
    let ends : is_endless (parent_of all) (length all) id ≡ false = ap is_some none in
    let tops = top_is_root (parent_of all) (length all) id ends in
    record {
      root = tops.0;
      only = tops.1;
      above = λ a. (chain_is_above (parent_of all) (length all) a id ends).0;
      found = λ a. (chain_is_above (parent_of all) (length all) a id ends).1;
    }
