use Rattle.std.proofs.Common.{◌≡◌, ◌∙◌, ◌<◌, ◌+◌, ℕ, Bool, true, false, List, length, set, inl, inr, sym, ap, subst, arith, slice_index, slice_index_or, length-set, get_or-set_same}
use Rattle.std.specs.List.{All}
use Rattle.std.proofs.lemmas.Bool.{cases_Bool, cases_eq, cases_lt, false≢true}
use Rattle.std.proofs.lemmas.List.{get_or_default, get_or-set_other}
use Rattle.ac_cloud.specs.Cloud.CloudWorld.{providers_of}
use Rattle.ac_cloud.specs.World.{Provider, anchors_of, is_available_at}
use Rattle.ac_prune.specs.Marks.{stand_at}
use Rattle.ac_rules.proofs.EachSlot.AnchorLemmas.{anchors_within}
use Rattle.ac_prune.proofs.Roots.TreeLemmas.{all_there, anchor_there, at_there, there_at}
use Rattle.ac_search.proofs.walk.leave.leave.Goals.{then-stand_at, else-stand_at}
use Rattle.ac_search.proofs.walk.leave.leave.Goals as goal

root_low : (all : List Provider) (ix i : ℕ) (roots : List ℕ) → roots ≡ anchors_of all ix → i < length roots → slice_index roots i < length all
root_low all ix i roots are within = subst (All (λ r. r < length all)) (sym are) (anchors_within all ix) i 0 within

-- of the roots before a place those have no mark that pass a test
abbrev AreCleared : (ℕ → Bool) → List ℕ → ℕ → List Bool → Type 0
AreCleared has roots i marks = (j : ℕ) → j < i → has (slice_index roots j) ≡ true → slice_index_or marks (slice_index roots j) false ≡ false

module _ (has : ℕ → Bool) (roots : List ℕ) (i : ℕ) (marks : List Bool) where
  cleared_here : slice_index roots i < length marks → AreCleared has roots i marks → AreCleared has roots (i + 1) (set marks (slice_index roots i) false)
  cleared_here low before j less there = elim (cases_eq (slice_index roots j) (slice_index roots i)) [
    | inl same ↦ rw same (get_or-set_same marks (slice_index roots i) false false low)
    | inr other ↦
        let earlier : j < i = elim (cases_lt j i) [ inl l ↦ l | inr g ↦ let here : j ≡ i = omega (arith, less) in absurd (other (ap (slice_index roots) here)) ] in
        get_or-set_other marks (slice_index roots i) (slice_index roots j) false false other ∙ before j earlier there
  ]

  kept_here : has (slice_index roots i) ≡ true → (r : ℕ) → has r ≡ false → slice_index_or (set marks (slice_index roots i) false) r false ≡ slice_index_or marks r false
  kept_here there r none = get_or-set_other marks (slice_index roots i) r false false (λ e. false≢true (sym none ∙ (ap has e ∙ there)))

  cleared_past : has (slice_index roots i) ≡ false → AreCleared has roots i marks → AreCleared has roots (i + 1) marks
  cleared_past none before j less there = elim (cases_lt j i) [
    | inl l ↦ before j l there
    | inr g ↦ let here : j ≡ i = omega (arith, less) in absurd (false≢true (sym none ∙ (sym (ap (λ (k : ℕ). has (slice_index roots k)) here) ∙ there)))
  ]

pub stand_at-requires-clause-root : goal.stand_at-requires-clause-root
stand_at-requires-clause-root c = root_low (providers_of c.args.cloud.now) c.narrowest.result c.loop-root.root-index c.anchors-roots.result.now c.anchors-roots.ensures c.loop-root-test.true

pub bounds-marks-root : goal.bounds-marks-root
bounds-marks-root c = omega (arith, c.loop-root.invariant.count, root_low (providers_of c.args.cloud.now) c.narrowest.result c.loop-root.root-index c.anchors-roots.result.now c.anchors-roots.ensures c.loop-root-test.true)

pub loop-root-preserved : goal.loop-root-preserved
loop-root-preserved c =
    let all = providers_of c.args.cloud.now in
    let has = λ (r : ℕ). stand_at all c.args.list.now r in
    let roots = c.anchors-roots.result.now in
    let i = c.loop-root.root-index in
    let marks = c.loop-root.marks in
    let low = root_low all c.narrowest.result i roots c.anchors-roots.ensures c.loop-root-test.true in
    elim c.if-stand_at.branch [
      | then-stand_at w ↦
          let there : has (slice_index roots i) ≡ true = sym c.stand_at.ensures ∙ w.if-stand_at.true in
          rw w.marks-is (record {
            count = length-set marks (slice_index roots i) false ∙ c.loop-root.invariant.count;
            left = cleared_here has roots i marks (omega (arith, low, c.loop-root.invariant.count)) c.loop-root.invariant.left;
            kept = λ r none. kept_here has roots i marks there r none ∙ c.loop-root.invariant.kept r none;
          })
      | else-stand_at w ↦
          let none : has (slice_index roots i) ≡ false = sym c.stand_at.ensures ∙ w.if-stand_at.false in
          rw w.marks-is (record { count = c.loop-root.invariant.count; left = cleared_past has roots i marks none c.loop-root.invariant.left; kept = c.loop-root.invariant.kept })
    ]

pub returns : goal.returns
returns c r low =
    let all = providers_of c.args.cloud.now in
    let list = c.args.list.now in
    let roots = c.anchors-roots.result.now in
    let marks = c.loop-root.marks in
    elim (cases_Bool (stand_at all list r)) [
      | inl there ↦
          let here : is_available_at all c.narrowest.result r ≡ true = all_there (λ p. is_available_at all p r) list c.narrowest.result there (at_there list c.narrowest.result c.narrowest.ensures) in
          let place = there_at roots r (rw c.anchors-roots.ensures (anchor_there all c.narrowest.result r low here)) in
          let at : slice_index roots place.0 ≡ r = get_or_default roots place.0 0 r place.1 ∙ place.2 in
          let cleared = c.loop-root.invariant.left place.0 (omega (arith, place.1, c.loop-root-test.false)) (subst (λ (z : ℕ). stand_at all list z ≡ true) (sym at) there) in
          rw there (subst (λ (z : ℕ). slice_index_or marks z false ≡ false) at cleared ∙ grind arith)
      | inr none ↦ rw none (c.loop-root.invariant.kept r none ∙ grind arith)
    ]
