use Rattle.std.proofs.Common.{refl, arith, slice_index}
use Rattle.ac_search.specs.Shown.Walk.{search_in}
use Rattle.ac_search.proofs.Search.BoundLemmas.{left_ended}
use Rattle.ac_search.proofs.walk.Walk.leave.Goals as goal

pub returns-then-self-eq0-clause-gives : goal.returns-then-self-eq0-clause-gives
returns-then-self-eq0-clause-gives c =
    let w = c.args.self.now in
    let first = c.if-self-eq0.true in
    record { stays = refl; nothing = rw first (left_ended (search_in w) w.least.items (slice_index w.places.items 0) (omega (arith, w.sound.within)) (rw first at c.requires)) }
