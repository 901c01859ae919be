use Rattle.std.proofs.Common.{◌≡◌, ◌<◌, ℕ, length, sym, ap, ◌∙◌, arith, slice_index_or}
use Rattle.std.specs.Global.{Vec}
use Rattle.std.proofs.lemmas.List.Elements.{All-from_recursion}
use Rattle.ac_prune.specs.Search.{choices_at}
use Rattle.ac_search.specs.Shown.Walk.{cloud_in, search_in, path_in, slot_in}
use Rattle.ac_search.specs.declared.walk.Walk.{Walk}
use Rattle.ac_prune.proofs.Roots.KeptLemmas.{kept_choices}
use Rattle.ac_search.proofs.Search.BoundLemmas.{path_low}
use Rattle.ac_search.proofs.Steps.StepLemmas.{laws_in}
use Rattle.ac_search.proofs.walk.Walk.front.Goals as goal

-- the choices of its slot, as they were read
slot_read : (w : Walk) (v : Vec ℕ) → v ≡ slice_index_or w.choices.items w.depth v → v.items ≡ slot_in w
slot_read w v is = kept_choices (search_in w) (laws_in w) w.choices.items w.depth v w.listed w.sound.within is

pub invariant_of-result : goal.invariant_of-result
unfolding choices_at
invariant_of-result c =
    let w = c.args.self.now in
    rw c.deref.ensures.value (record {
      accounts = w.accounted;
      short = omega (arith, w.sound.long, w.sound.within);
      providers = All-from_recursion (λ p. p < length (cloud_in w)) (path_in w) (path_low (laws_in w) w.sound);
      listed = c.deref-2.ensures.value ∙ (slot_read w c.index.result.now c.index.ensures ∙ ap (choices_at (search_in w)) (sym w.sound.long));
      bounded = c.requires;
    })

pub returns-clause-choices : goal.returns-clause-choices
returns-clause-choices c = c.deref-2.ensures.value ∙ slot_read c.args.self.now c.index.result.now c.index.ensures
