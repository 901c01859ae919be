use Rattle.std.proofs.Common.{◌≡◌, ◌+◌, suc, sym, ◌∙◌, arith}
use Rattle.std.proofs.lemmas.Bool.{false≢true}
use Rattle.ac_search.specs.Shown.Walk.{search_in}
use Rattle.ac_prune.proofs.Roots.KeptLemmas.{kept_choices}
use Rattle.ac_search.proofs.Steps.EntryLemmas.{enter_along, enter_beside}
use Rattle.ac_search.proofs.Steps.StepLemmas.{laws_in}
use Rattle.ac_search.proofs.walk.Walk.entry.Goals as goal

pub returns-then-has_at : goal.returns-then-has_at
returns-then-has_at c =
    let w = c.args.self.now in
    let next : w.depth + 1 ≡ suc w.depth = omega arith in
    let kept = kept_choices (search_in w) (laws_in w) w.choices.items (suc w.depth) c.index.result.now w.listed c.requires.short (rw next at c.index.ensures) in
    enter_along (laws_in w) w.sound c.requires.short c.start_of-start.result c.if-self.true (rw (c.deref.ensures.value, c.requires.next.is) at (c.has_at.ensures.0 c.if-has_at.true))
    (rw (c.deref-then-has_at.ensures.value, kept, c.deref-then-has_at-2.ensures.value, next) at c.start_of-start.ensures)

pub returns-else-has_at : goal.returns-else-has_at
returns-else-has_at c =
    let w = c.args.self.now in
    enter_beside (laws_in w) w.sound c.requires.short c.requires.next.among (λ _ h. false≢true (sym c.if-has_at.false ∙ c.has_at.ensures.1 (rw (c.deref.ensures.value, c.requires.next.is) h)))

pub returns-else-self : goal.returns-else-self
returns-else-self c =
    let w = c.args.self.now in
    enter_beside (laws_in w) w.sound c.requires.short c.requires.next.among (λ b _. false≢true (sym c.if-self.false ∙ b))
