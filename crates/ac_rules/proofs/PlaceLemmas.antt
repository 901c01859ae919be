-- Providers by their ids and by their places.
use Rattle.std.proofs.Common.{◌≡◌, ◌==◌, ℕ, ◌<◌, List, length, inl, inr, Some, sym, ap, ◌∙◌}
use Rattle.std.proofs.lemmas.Bool.{cases_eq, eqb-true, eq-eqb, ne_eqb}
use Rattle.std.proofs.lemmas.Iterator.Adapters.{position_from-zero}
use Rattle.std.proofs.lemmas.List.Quantifiers.{position-Some}
use Rattle.ac_cloud.specs.World.{Provider, no_provider, id_at, place_of, is_provider, root_of}
use Rattle.ac_rules.specs.Placed.{Placed}
use Rattle.ac_rules.specs.Own.{tree_fits}

-- where a provider is found, it is there, and it has the id
pub record IsPlaced (all : List Provider) (id p : ℕ) : Type 0 where
  pub within : p < length all
  pub named : id_at all p ≡ id

pub found_at : (all : List Provider) (id p : ℕ) → place_of all id ≡ Some p → IsPlaced all id p
found_at all id p h =
    let found = position-Some (is_provider id) all p no_provider (position_from-zero (is_provider id) all ∙ h) in
    record { within = found.0; named = eqb-true (id_at all p) id found.1 }

pub found_within : (all : List Provider) (id p : ℕ) → place_of all id ≡ Some p → p < length all
found_within all id p h = (found_at all id p h).within

-- two ids are the same where their places are
pub same_place : (all : List Provider) (a b p q : ℕ) → place_of all a ≡ Some p → place_of all b ≡ Some q → (p == q) ≡ (a == b)
same_place all a b p q h k = elim (cases_eq p q) [
  | inl e ↦
      let same : a ≡ b = sym (found_at all a p h).named ∙ (ap (id_at all) e ∙ (found_at all b q k).named) in
      eq-eqb p q e ∙ sym (eq-eqb a b same)
  | inr e ↦ ne_eqb p q e ∙ sym (ne_eqb a b (λ same. e (let both : Some p ≡ Some q = sym h ∙ (ap (place_of all) same ∙ k) in cc)))
]

-- where a group names a provider that is there, the rule compares the places of the roots
pub tree_at : (all : List Provider) (x : Placed) (id place r q : ℕ) → x.slot.group.in_tree ≡ Some id → place_of all id ≡ Some place
    → place_of all (root_of all (id_at all x.provider)) ≡ Some r → place_of all (root_of all (id_at all place)) ≡ Some q
    → (r == q) ≡ tree_fits all x
unfolding tree_fits
tree_at all x id place r q tree there root other =
    let same : id_at all place ≡ id = (found_at all id place there).named in
    rw (tree, there) (same_place all (root_of all (id_at all x.provider)) (root_of all id) r q root (ap (λ i. place_of all (root_of all i)) (sym same) ∙ other))
