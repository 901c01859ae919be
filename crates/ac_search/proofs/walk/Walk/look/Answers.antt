use Rattle.ac_search.proofs.Steps.PassLemmas.{front_low, choices_dead}
use Rattle.ac_search.proofs.Steps.StepLemmas.{place_read}
use Rattle.ac_search.proofs.walk.Walk.look.Goals as goal

pub may_follow-requires-clause-provider : goal.may_follow-requires-clause-provider
may_follow-requires-clause-provider c = front_low c.args.self.now c.front-front.result c.front-front.ensures.ledger c.front-front.ensures.path c.front-front.ensures.choices c.next-place.result c.if-some.true

pub returns-then-some-clause-jumped : goal.returns-then-some-clause-jumped
returns-then-some-clause-jumped c =
    let w = c.args.self.now in
    rw (place_read w c.index.result.now c.index.ensures) at (choices_dead w c.front-front.result c.front-front.ensures.ledger c.front-front.ensures.path c.front-front.ensures.choices c.index.result.now c.next-place.result c.next-place.ensures.within c.next-place.ensures.dead)

pub returns-else-some-clause-jumped : goal.returns-else-some-clause-jumped
returns-else-some-clause-jumped c =
    let w = c.args.self.now in
    rw (place_read w c.index.result.now c.index.ensures) at (choices_dead w c.front-front.result c.front-front.ensures.ledger c.front-front.ensures.path c.front-front.ensures.choices c.index.result.now c.next-place.result c.next-place.ensures.within c.next-place.ensures.dead)
