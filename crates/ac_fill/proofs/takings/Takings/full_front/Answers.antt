use Rattle.std.proofs.Common.{◌≡◌, ◌∙◌, ◌+◌, ◌≤◌, ap, arith, length, slice_index, subst, sym, take}
use Rattle.std.proofs.lemmas.List.{length-take-le}
use Rattle.ac_cloud.specs.Cloud.CloudWorld.{providers_of}
use Rattle.ac_query.specs.Asked.{Asked, slots_of}
use Rattle.ac_query.specs.Shown.Queries.{asked_of}
use Rattle.ac_rules.specs.Placed.{assigned, placed_at}
use Rattle.ac_rules.specs.Together.{holds_sums}
use Rattle.ac_fill.specs.Shown.{asked_in, with_taken}
use Rattle.ac_fill.proofs.Ending.{slot_full}
use Rattle.ac_fill.proofs.takings.Takings.full_front.Goals as goal

pub returns-then-not-has_room_at : goal.returns-then-not-has_room_at
returns-then-not-has_room_at c = λ _.
    let all = with_taken c.args.self.now (providers_of c.args.assignment.now.cloud.now) in
    let asked = asked_in c.args.self.now in
    let list = c.args.assignment.now.list.now in
    let s = c.loop-s.s in
    let within : s + 1 ≤ length list = omega (arith, c.loop-s-test.true, c.loop-s.auto.s-end) in
    let long : length (take (s + 1) list) ≡ s + 1 = length-take-le (s + 1) list within in
    let short : length (take (s + 1) list) ≤ length (slots_of asked) = omega (arith, long, within, c.args.assignment.now.slots, ap (λ a. length (slots_of a)) c.requires.query) in
    let front = take (s + 1) list in
    let room : c.has_room_at.result ≡ holds_sums all (assigned (asked_of c.args.assignment.now.query.now) front) (placed_at asked s (slice_index front s)) = c.has_room_at.ensures.room in
    let told = subst (λ (a : Asked). c.has_room_at.result ≡ holds_sums all (assigned a front) (placed_at asked s (slice_index front s))) c.requires.query room in
    slot_full all asked front s (omega (arith, long)) short (sym told ∙ c.if-not-has_room_at.true)
