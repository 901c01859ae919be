-- Walking up a chain of parents.
use Rattle.ac_cloud.proofs.Common.{◌≡◌, ◌<◌, ◌∙◌, ℕ, zero, suc, true, false, length, get_or, Option, Some, None, refl, sym, ap, inl, inr, ◌==◌, IfSome, option_map, cases_eq, cases_Bool, is_in_chain, parent_in, id_at, parent_of, providers_of, Cloud, or-false}
use Rattle.ac_cloud.proofs.Rising.{rising_apart}
use Rattle.ac_cloud.proofs.Places.CloudFacts.{parent_is, id_here, parent_here, parts}
use Rattle.ac_base.proofs.Small.{equal, differ}
use Rattle.std.proofs.Common.{arith}
use Rattle.std.proofs.lemmas.Grind.{common_steps}

-- a provider is in its own chain
pub chain_here : (parent : ℕ → Option ℕ) (k a b : ℕ) → (b == a) ≡ true → is_in_chain parent k a b ≡ true
chain_here parent k a b e = grind (arith, common_steps)

-- where the chain ends
pub chain_ends : (parent : ℕ → Option ℕ) (k a b : ℕ) → (b == a) ≡ false → parent b ≡ None → is_in_chain parent k a b ≡ false
chain_ends parent k a b e none = grind (arith, common_steps)

-- where it goes on
pub chain_goes : (parent : ℕ → Option ℕ) (k a b p : ℕ) → (b == a) ≡ false → parent b ≡ Some p → is_in_chain parent (suc k) a b ≡ is_in_chain parent k a p
chain_goes parent k a b p e some = rw (e, some) refl

pub chain_last : (parent : ℕ → Option ℕ) (a b : ℕ) → is_in_chain parent zero a b ≡ (b == a)
chain_last parent a b = or-false (b == a)

-- places are equal where their ids are
pub same_test : (c : Cloud) (i j : ℕ) → i < length c.ids.ids.items → j < length c.ids.ids.items → (id_at (providers_of c) i == id_at (providers_of c) j) ≡ (i == j)
same_test c i j hi hj = elim (cases_eq i j) [
  | inl e ↦ equal (id_at (providers_of c) i) (id_at (providers_of c) j) (ap (id_at (providers_of c)) e) ∙ sym (equal i j e)
  | inr ne ↦
      differ (id_at (providers_of c) i) (id_at (providers_of c) j) (λ e. rising_apart c.ids.ids.items c.ids.rising i j hi hj ne (sym (id_here c i hi) ∙ e ∙ id_here c j hj))
      ∙ sym (differ i j ne)
]

pub some_name : (f : ℕ → ℕ) (o : Option ℕ) (p : ℕ) (q : Option ℕ) → o ≡ Some p → option_map f o ≡ q → q ≡ Some (f p)
some_name f o p q e same = sym same ∙ ap (option_map f) e

pub no_name : (f : ℕ → ℕ) (o : Option ℕ) (q : Option ℕ) → o ≡ None → option_map f o ≡ q → q ≡ None
no_name f o q e same = sym same ∙ ap (option_map f) e

pub some_inside : (n : ℕ) (o : Option ℕ) (p : ℕ) → o ≡ Some p → IfSome o (λ j. j < n) → p < n
some_inside n o p e h = rw e at h

-- chains of places and chains of ids
pub chain_places : (c : Cloud) (k a b : ℕ) → a < length c.ids.ids.items → b < length c.ids.ids.items
    → is_in_chain (parent_of (providers_of c)) k (id_at (providers_of c) a) (id_at (providers_of c) b) ≡ is_in_chain (parent_in c.parents.items) k a b
chain_places c zero a b ha hb =
    chain_last (parent_of (providers_of c)) (id_at (providers_of c) a) (id_at (providers_of c) b) ∙ same_test c b a hb ha ∙ sym (chain_last (parent_in c.parents.items) a b)
chain_places c (suc k) a b ha hb = elim (cases_Bool (b == a)) [
  | inl e ↦
      chain_here (parent_of (providers_of c)) (suc k) (id_at (providers_of c) a) (id_at (providers_of c) b) (same_test c b a hb ha ∙ e)
      ∙ sym (chain_here (parent_in c.parents.items) (suc k) a b e)
  | inr ne ↦ by_parent (parent_in c.parents.items b) refl ne (λ (q : ℕ) (hq : q < length c.ids.ids.items). chain_places c k a q ha hq)
]
  where
    by_parent : (o : Option ℕ) → parent_in c.parents.items b ≡ o → (b == a) ≡ false
        → ((q : ℕ) → q < length c.ids.ids.items → is_in_chain (parent_of (providers_of c)) k (id_at (providers_of c) a) (id_at (providers_of c) q) ≡ is_in_chain (parent_in c.parents.items) k a q)
        → is_in_chain (parent_of (providers_of c)) (suc k) (id_at (providers_of c) a) (id_at (providers_of c) b) ≡ is_in_chain (parent_in c.parents.items) (suc k) a b
    by_parent None e ne rest =
        chain_ends (parent_of (providers_of c)) (suc k) (id_at (providers_of c) a) (id_at (providers_of c) b) (same_test c b a hb ha ∙ ne) (parent_here c b hb ∙ ap (option_map (λ j. get_or c.ids.ids.items j 0)) e)
        ∙ sym (chain_ends (parent_in c.parents.items) (suc k) a b ne e)
    by_parent (Some q) e ne rest =
        let hq : q < length c.ids.ids.items = (parts c).forest.within b q hb e in
        let up : parent_of (providers_of c) (id_at (providers_of c) b) ≡ Some (id_at (providers_of c) q) =
        parent_here c b hb ∙ ap (option_map (λ j. get_or c.ids.ids.items j 0)) e ∙ ap (λ (x : ℕ). Some x) (sym (id_here c q hq)) in
        chain_goes (parent_of (providers_of c)) k (id_at (providers_of c) a) (id_at (providers_of c) b) (id_at (providers_of c) q) (same_test c b a hb ha ∙ ne) up
        ∙ rest q hq ∙ sym (chain_goes (parent_in c.parents.items) k a b q ne e)

-- what shows where a chain ends and goes on, by the places of a cloud
pub ruleset chains = (chain_here, chain_ends, chain_goes, chain_last, same_test, parent_is, some_name, no_name, some_inside)
