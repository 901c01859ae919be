use Rattle.std.proofs.Common.{◌∙◌, arith}
use Rattle.std.proofs.lemmas.List.{get_or_default}
use Rattle.ac_search.specs.Shown.Walk.{search_in}
use Rattle.ac_prune.proofs.Roots.KeptLemmas.{kept_choices}
use Rattle.ac_search.proofs.Steps.StepLemmas.{laws_in, place_read}
use Rattle.ac_search.proofs.walk.Walk.choice.Goals as goal

pub returns-then-place-len : goal.returns-then-place-len
returns-then-place-len c =
    let w = c.args.self.now in
    let m = search_in w in
    let kept = kept_choices m (laws_in w) w.choices.items w.depth c.index-choices.result.now w.listed w.sound.within c.index-choices.ensures in
    let place = place_read w c.index-place.result.now c.index-place.ensures in
    let is = c.index.ensures ∙ get_or_default c.index-choices.result.now.items c.index-place.result.now c.index.result.now m.count (omega arith) in
    record { among = rw (← kept, ← place) (omega arith); is = rw (← kept, ← place) is }

pub returns-else-place-len : goal.returns-else-place-len
returns-else-place-len c =
    let w = c.args.self.now in
    let kept = kept_choices (search_in w) (laws_in w) w.choices.items w.depth c.index-choices.result.now w.listed w.sound.within c.index-choices.ensures in
    let place = place_read w c.index-place.result.now c.index-place.ensures in
    rw (← kept, ← place) (omega arith)
