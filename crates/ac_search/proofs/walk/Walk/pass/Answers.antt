use Rattle.std.proofs.Common.{◌≡◌, ◌<◌, ◌∙◌, length, refl, sym}
use Rattle.std.proofs.lemmas.List.Elements.{All-from_recursion}
use Rattle.ac_search.specs.Search.Steps.{Passes}
use Rattle.ac_search.specs.Shown.Walk.{cloud_in, path_in, StaysWithin}
use Rattle.ac_search.specs.declared.walk.Walk.{Walk}
use Rattle.ac_search.proofs.Search.BoundLemmas.{path_low}
use Rattle.ac_search.proofs.Steps.PassLemmas.{passes_none, passes_then}
use Rattle.ac_search.proofs.Steps.StepLemmas.{laws_in, within_kept, within_more, within_then}
use Rattle.ac_search.proofs.walk.Walk.pass.Goals as goal

pub bound_by-bound-requires : goal.bound_by-bound-requires
bound_by-bound-requires c =
    let w = c.args.self.now in
    rw c.deref.ensures.value (All-from_recursion (λ p. p < length (cloud_in w)) (path_in w) (path_low (laws_in w) w.sound))

-- where no choice is tried, the count stays
stays_beside : (w u v : Walk) → Passes w u → StaysWithin w u → v.probes ≡ u.probes → StaysWithin w v
stays_beside w u v passes within kept = within_then w u v passes.same.most within (within_kept u v kept)

pub choices-init : goal.choices-init
choices-init c = let w = c.args.self.now in record { passes = passes_none w; within = within_kept w w refl }

pub choices-preserved : goal.choices-preserved
choices-preserved c =
    let w = c.args.self.now in
    let u = c.go_beside.new.self in
    let v = c.pass_over.new.self in
    let passes = passes_then w c.choices.self u c.choices.invariant.passes c.go_beside.ensures.passes in
    let within = stays_beside w c.choices.self u c.choices.invariant.passes c.choices.invariant.within c.go_beside.ensures.probes in
    record {
      passes = passes_then w u v passes c.pass_over.ensures.passes;
      within = within_then w u v passes.same.most within (within_more u v (sym c.is_spent.ensures ∙ c.if-is_spent.false) c.pass_over.ensures.probes);
    }

pub returns-then-not-go_beside-clause-passes : goal.returns-then-not-go_beside-clause-passes
returns-then-not-go_beside-clause-passes c = passes_then c.args.self.now c.choices.self c.go_beside.new.self c.choices.invariant.passes c.go_beside.ensures.passes

pub returns-then-not-go_beside-clause-within : goal.returns-then-not-go_beside-clause-within
returns-then-not-go_beside-clause-within c = stays_beside c.args.self.now c.choices.self c.go_beside.new.self c.choices.invariant.passes c.choices.invariant.within c.go_beside.ensures.probes

pub returns-then-is_spent-clause-passes : goal.returns-then-is_spent-clause-passes
returns-then-is_spent-clause-passes c = passes_then c.args.self.now c.choices.self c.go_beside.new.self c.choices.invariant.passes c.go_beside.ensures.passes

pub returns-then-is_spent-clause-within : goal.returns-then-is_spent-clause-within
returns-then-is_spent-clause-within c = stays_beside c.args.self.now c.choices.self c.go_beside.new.self c.choices.invariant.passes c.choices.invariant.within c.go_beside.ensures.probes
