-- Visits that agree with their neighbours tell who is above whom.
use Rattle.ac_cloud.proofs.Common.{◌≡◌, ◌∙◌, ◌<◌, ◌≤◌, ℕ, zero, suc, true, false, List, length, get_or, Option, Some, None, sym, ap, arith, rules, inl, inr, ◌==◌, ◌&&◌, nat_le, nat_lt, cases_Bool, false≢true, parent_in, along, AreWithin, is_in_chain, IsPlaced}
use Rattle.std.proofs.lemmas.Bool.{and_from, and_parts, cases_order}
use Rattle.ac_cloud.specs.Cloud.Visits.{AreVisits}
use Rattle.ac_cloud.proofs.Trees.AncestorFacts.{chain_here, chain_ends, chain_goes, chain_last}
use Rattle.ac_base.proofs.Small.{are_equal, differ, equal, some_or_none}

module _ (parents : List (Option ℕ)) (entered left order : List ℕ) (before : List (Option ℕ)) (within : AreWithin (length parents) parents)
    (placed : (b : ℕ) → b < length parents → IsPlaced parents entered left order before b) where
  abbrev n : ℕ
  n = length parents

  same_place : (a b : ℕ) → a < n → b < n → along entered a ≡ along entered b → a ≡ b
  same_place a b ha hb e = sym (placed a ha).here ∙ ap (λ (i : ℕ). get_or order i 0) e ∙ (placed b hb).here

  -- the parent is there, and entered no earlier than a
  abbrev Goes : ℕ → ℕ → Type 0
  Goes a b = (q : ℕ) × ((parent_in parents b ≡ Some q) × (along entered a ≤ along entered q))

  abbrev Climbs : ℕ → Type 0
  Climbs m = (a b : ℕ) → a < n → b < n → along entered b < m → along entered a < along entered b → along entered b < along left a → Goes a b

  abbrev Nests : ℕ → Type 0
  Nests m = (s a : ℕ) → s < n → a < n → along entered a < m → along entered s < along entered a → along entered a < along left s → along left a ≤ along left s

  next_climbs : (m : ℕ) → Climbs m → Nests m → Climbs (suc m)
  next_climbs m climbs nests a b ha hb hm less later = elim (some_or_none (get_or before b None)) [
    | inl p ↦
        let s = p.0 in
        let sib = (placed b hb).sibling s p.1 in
        let hs : s < n = sib.0 in
        let ends : along left s ≡ along entered b = sib.2 in
        let leaves : along entered s < along left s = (placed s hs).leaves in
        elim (cases_order (along entered a) (along entered s)) [
          | inl e ↦
              absurd (omega (arith, ap (along left) (same_place a s ha hs e), ends, later))
          | inr (inl lt) ↦
              let g = climbs a s ha hs (omega (arith, leaves, ends, hm)) lt (omega (arith, leaves, ends, later)) in
              (g.0, (sym sib.1 ∙ g.1.0, g.1.1))
          | inr (inr gt) ↦ absurd (omega (arith, nests s a hs ha (omega (arith, less, hm)) gt (omega (arith, ends, less)), ends, later))
        ]
    | inr none ↦ elim (some_or_none (parent_in parents b)) [
      | inl p ↦ (p.0, (p.1, omega (arith, (placed b hb).child p.0 none p.1, less)))
      | inr e ↦ absurd (omega (arith, (placed b hb).root none e, less))
    ]
  ]

  next_nests : (m : ℕ) → Climbs (suc m) → Nests m → Nests (suc m)
  next_nests m climbs nests s a hs ha hm less later = grind (arith, cases_order, same_place)

  both : (m : ℕ) → Climbs m × Nests m
  both zero = (λ a b ha hb hm less later. absurd (omega (arith, hm)), λ s a hs ha hm less later. absurd (omega (arith, hm)))
  both (suc m) =
      let rest = both m in
      let climbs = next_climbs m rest.0 rest.1 in
      (climbs, next_nests m climbs rest.1)

  -- between the visit's turns a is in the chain
  interval_chain : (k a b : ℕ) → a < n → b < n → along entered b ≤ k → along entered a ≤ along entered b → along entered b < along left a → is_in_chain (parent_in parents) k a b ≡ true
  interval_chain zero a b ha hb hk le later = chain_here (parent_in parents) zero a b (equal b a (sym (same_place a b ha hb (omega (arith, hk, le)))))
  interval_chain (suc k) a b ha hb hk le later = elim (cases_order (along entered a) (along entered b)) [
    | inl e ↦ chain_here (parent_in parents) (suc k) a b (equal b a (sym (same_place a b ha hb e)))
    | inr (inl less) ↦
        let g = (both (suc (along entered b))).0 a b ha hb (omega arith) less later in
        let up = (placed b hb).parent g.0 g.1.0 in
        let hq : g.0 < n = within b g.0 hb g.1.0 in
        let apart : (b == a) ≡ false = differ b a (λ e. omega (arith, less, ap (along entered) e)) in
        chain_goes (parent_in parents) k a b g.0 apart g.1.0 ∙ interval_chain k a g.0 ha hq (omega (arith, up.0, hk)) g.1.1 (omega (arith, up.0, later))
    | inr (inr gt) ↦ absurd (omega (arith, gt, le))
  ]

  -- who is in the chain is entered before and left after
  chain_interval : (k a b : ℕ) → b < n → is_in_chain (parent_in parents) k a b ≡ true → (along entered a ≤ along entered b) × (along left b ≤ along left a)
  chain_interval zero a b hb h = grind (arith, are_equal, chain_last)
  chain_interval (suc k) a b hb h = elim (cases_Bool (b == a)) [
    | inl e ↦ let one : a ≡ b = sym (are_equal b a e) in (omega (arith, ap (along entered) one), omega (arith, ap (along left) one))
    | inr ne ↦ elim (some_or_none (parent_in parents b)) [
      | inl p ↦
          let up = (placed b hb).parent p.0 p.1 in
          let rest = chain_interval k a p.0 (within b p.0 hb p.1) (sym (chain_goes (parent_in parents) k a b p.0 ne p.1) ∙ h) in
          (omega (arith, up.0, rest.0), omega (arith, up.1, rest.1))
      | inr none ↦ absurd (false≢true (sym (chain_ends (parent_in parents) (suc k) a b ne none) ∙ h))
    ]
  ]

  le_true : (x y : ℕ) → x ≤ y → nat_le x y ≡ true
  le_true x y h = search (arith, rules)

  lt_true : (x y : ℕ) → x < y → nat_lt x y ≡ true
  lt_true x y h = search (arith, rules)

  parts : (x y u v : ℕ) → (nat_le x y && nat_lt u v) ≡ true → (x ≤ y) × (u < v)
  parts x y u v h = (search (arith, rules, (and_parts (nat_le x y) (nat_lt u v) h).0), search (arith, rules, (and_parts (nat_le x y) (nat_lt u v) h).1))

  pub visits_tell : length order ≡ length parents → AreVisits parents entered left
  visits_tell size = grind (arith, and_from, cases_Bool, chain_interval, false≢true, interval_chain, le_true, lt_true, parts)
