use Rattle.ac_cloud.proofs.Common.{◌≡◌, ◌<◌, ◌∙◌, ◌%◌, ℕ, length, get_or, arith, climb, along}
use Rattle.ac_cloud.proofs.Trees.StepsUp.{twice_inside, after_inside, ahead_halved}
use Rattle.ac_cloud.proofs.cloud.roots.find_tops.Goals as goal

pub loop-left-preserved : goal.loop-left-preserved
loop-left-preserved c =
    let parents = c.args.parents.now in
    let inv = c.loop-left.invariant in
    let step = c.loop-left.step.items in
    let twice = c.in_ok-step-2.step.items in
    let places = c.loop-left.places.items in
    let after = c.follow_odd-places.result.items in
    let step_count : length step ≡ length parents = inv.step_count in
    let count : length places ≡ length parents = inv.count in
    let after_count : length after ≡ length places = c.follow_odd-places.ensures.length in
    let one_same : (i : ℕ) → i < length places → get_or after i 0 ≡ climb (along step) (c.loop-left.left % 2) (get_or places i 0)
    = rw c.deref.ensures.value at c.follow_odd-places.ensures.places in
    let twice_count : length twice ≡ length step = rw c.deref-in-loop-left.ensures.value at c.in_ok-step-2.ensures.length in
    let twice_steps : (i : ℕ) → i < length step → get_or twice i 0 ≡ get_or step (get_or step i 0) 0 = rw c.deref-in-loop-left.ensures.value at c.in_ok-step-2.ensures.steps in
    let twice_same : (i : ℕ) → i < length parents → get_or twice i 0 ≡ get_or step (get_or step i 0) 0
    = λ (i : ℕ) (h : i < length parents). twice_steps i (omega (arith, h, step_count)) in
    record {
      step_count = twice_count ∙ step_count;
      count = after_count ∙ count;
      step_inside = twice_inside (length parents) step twice inv.step_inside step_count (twice_count ∙ step_count) twice_same;
      inside = after_inside (length parents) (c.loop-left.left % 2) step places after inv.step_inside step_count inv.inside after_count
          (λ (i : ℕ) (h : i < length after). one_same i (omega (arith, h, after_count)));
      ahead = λ (i : ℕ) (h : i < length parents).
          let here : i < length places = omega (arith, h, count) in
          ahead_halved (length parents) c.loop-left.left step twice (get_or places i 0) (get_or after i 0) inv.step_inside step_count twice_same (inv.inside i here) (one_same i here)
          ∙ inv.ahead i h;
    }
