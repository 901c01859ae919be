use Rattle.std.proofs.Common.{◌<◌, ◌∙◌, refl, sym, arith, get_or-set_same, length-set}
use Rattle.ac_search.specs.Search.{next_front}
use Rattle.ac_search.specs.Shown.Walk.{search_in, place_in, front_in, path_in}
use Rattle.ac_rules.proofs.Lists.OrderLemmas.{lex_asym, lex_irrefl}
use Rattle.ac_search.proofs.Search.BoundLemmas.{front_rises, left_dead}
use Rattle.ac_search.proofs.Steps.StepLemmas.{laws_in, place_read, sound_at}
use Rattle.ac_search.proofs.walk.Walk.go_on.Goals as goal

pub invariant_of-self-clause-places_len : goal.invariant_of-self-clause-places_len
invariant_of-self-clause-places_len c = let w = c.args.self.now in length-set w.places.items w.depth c.args.place ∙ w.places_len

pub invariant_of-self-clause-sound : goal.invariant_of-self-clause-sound
invariant_of-self-clause-sound c =
    let w = c.args.self.now in
    sound_at w c.args.place w.probes (omega (arith, place_read w c.index.result.now c.index.ensures, c.if-place-index.true)) c.requires.within (omega arith) (omega arith)

pub returns-then-place-index-clause-passes : goal.returns-then-place-index-clause-passes
returns-then-place-index-clause-passes c =
    let w = c.args.self.now in
    let later : place_in w < c.args.place = omega (arith, place_read w c.index.result.now c.index.ensures, c.if-place-index.true) in
    let there = get_or-set_same w.places.items w.depth c.args.place 0 (omega (arith, w.places_len, w.sound.within)) in
    record {
      same = record { cloud = refl; query = refl; after = refl; least = refl; roots = refl; most = refl };
      path = refl;
      depth = refl;
      on = rw there c.requires.from;
      left = rw there (sym (left_dead (laws_in w) w.sound c.args.place later c.requires.within c.requires.dead));
      up = rw there (lex_asym (front_in w) (next_front (search_in w) (path_in w) w.depth c.args.place) (front_rises (search_in w) (laws_in w) (path_in w) w.depth (place_in w) c.args.place w.sound.within later c.requires.within));
      kept = omega arith;
    }

pub returns-else-place-index-clause-passes : goal.returns-else-place-index-clause-passes
returns-else-place-index-clause-passes c = record { same = record { cloud = refl; query = refl; after = refl; least = refl; roots = refl; most = refl }; path = refl; depth = refl; on = omega arith; left = refl; up = lex_irrefl (front_in c.args.self.now); kept = omega arith }
