use Rattle.std.proofs.Common.{◌+◌, ◌∙◌, refl, arith, get_or-set_same, length-set}
use Rattle.ac_search.specs.Shown.Walk.{place_in}
use Rattle.ac_prune.proofs.Roots.TreeLemmas.{few_providers}
use Rattle.ac_search.proofs.Steps.ChangeLemmas.{one_more_kept, one_more_most}
use Rattle.ac_search.proofs.Steps.StepLemmas.{laws_in, place_read, sound_at}
use Rattle.ac_search.proofs.walk.Walk.skip.Goals as goal

pub overflow_add-index_mut : goal.overflow_add-index_mut
overflow_add-index_mut c =
    let w = c.args.self.now in
    omega (arith, place_read w c.index_mut.result.now c.index_mut.ensures.value, (laws_in w).few w.depth w.sound.within, few_providers w.ledger.cloud.now)

pub invariant_of-self-clause-places_len : goal.invariant_of-self-clause-places_len
invariant_of-self-clause-places_len c = let w = c.args.self.now in length-set w.places.items w.depth _ ∙ w.places_len

pub invariant_of-self-clause-sound : goal.invariant_of-self-clause-sound
invariant_of-self-clause-sound c =
    let w = c.args.self.now in
    let place = place_read w c.index_mut.result.now c.index_mut.ensures.value in
    rw place (sound_at w (place_in w + 1) c.args.tries (omega arith) (omega (arith, c.requires.among)) (omega (arith, c.requires.counted, one_more_kept w.probes)) (omega (arith, c.requires.counted, one_more_most w.probes)))

pub returns-clause-skips : goal.returns-clause-skips
returns-clause-skips c =
    let w = c.args.self.now in
    let place = place_read w c.index_mut.result.now c.index_mut.ensures.value in
    record { same = record { cloud = refl; query = refl; after = refl; least = refl; roots = refl; most = refl }; path = refl; depth = refl; at = rw (place, get_or-set_same w.places.items w.depth (place_in w + 1) 0 (omega (arith, w.places_len, w.sound.within))) refl; counted = c.requires.counted }
