use Rattle.std.proofs.Common.{◌≡◌, ◌<◌, ◌+◌, ◌++◌, ℕ, List, [], ◌∷◌, inl, inr, length, arith, rules, subst, sym, ap, slice_index_or, length-append}
use Rattle.std.proofs.lemmas.Bool.{cases_eq}
use Rattle.std.proofs.lemmas.List.{get_or_append_left, get_or_push}
use Rattle.ac_prune.specs.Left.Accounts.{providers_in}
use Rattle.ac_prune.specs.Loads.{choice_in}
use Rattle.ac_prune.specs.Trees.{MeetInGroves}
use Rattle.ac_prune.specs.declared.trees.by_tree.Places.{Places}
use Rattle.ac_prune.proofs.Roots.GroveLemmas.{meet}
use Rattle.ac_prune.proofs.trees.wide.Wide.new.Goals as goal

pub loop-s-preserved : goal.loop-s-preserved
loop-s-preserved c =
    let all = providers_in c.args.choices.now.ledger.now in
    let lists = c.in_ok-of_providers.of_providers.items in
    let slots = c.loop-s.slots.items in
    let places = c.in_ok-by_grove.field-0 in
    let Meet : ℕ → Places → _ = λ s b. MeetInGroves all lists (choice_in c.args.choices.now.ledger.now s) b in
    let this = meet all c.args.groves.now.of_roots.items lists c.of_slot.result.now places c.in_ok-of_providers.ensures c.of_slot.ensures.low (rw c.deref.ensures.value at c.in_ok-by_grove.ensures) in
    let now : Meet c.loop-s.s places = subst (λ (xs : List ℕ). MeetInGroves all lists xs places) c.of_slot.ensures.list this in
    record {
      count = omega (arith, ap length c.in_ok-push.ensures.items, length-append slots (places ∷ []), c.loop-s.invariant.count);
      each = λ s d h. subst (λ (xs : List Places). Meet s (slice_index_or xs s d)) (sym c.in_ok-push.ensures.items) (elim (cases_eq s c.loop-s.s) [
        | inl e ↦ rw (e, get_or_push slots places d c.loop-s.s c.loop-s.invariant.count) now
        | inr e ↦
            let before : s < c.loop-s.s = omega (arith, h, e) in
            rw (get_or_append_left slots (places ∷ []) d s (omega (arith, before, c.loop-s.invariant.count))) (c.loop-s.invariant.each s d before)
      ]);
    }
