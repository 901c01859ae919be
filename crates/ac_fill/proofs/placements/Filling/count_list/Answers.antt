use Rattle.std.proofs.Common.{◌≡◌, ◌∙◌, ◌∷◌, ℕ, List, true, false, length, refl, sym, subst, inl, inr}
use Rattle.ac_cloud.specs.Cloud.CloudWorld.{providers_of}
use Rattle.ac_query.specs.Asked.{Asked, slots_of}
use Rattle.ac_rules.specs.Judge.{is_candidate}
use Rattle.ac_rules.specs.Lists.{IsListBelow}
use Rattle.ac_rules.specs.Placed.{assigned}
use Rattle.ac_rules.specs.Together.{sums}
use Rattle.ac_fill.specs.Ends.{AreAhead, CountsSome, stand_of, takings_of, world_at}
use Rattle.ac_fill.specs.Filled.{asks_units}
use Rattle.ac_fill.specs.Shown.{asked_in}
use Rattle.ac_fill.proofs.Again.{leads_on}
use Rattle.ac_fill.proofs.Ending.{leaves}
use Rattle.ac_fill.proofs.Placing.{ahead_past}
use Rattle.ac_fill.proofs.placements.Filling.count_list.Goals as goal

pub room-init : goal.room-init
room-init c = record { query = refl; fits = c.requires.fits; small = c.requires.small; ahead = λ rest ahead. ahead; leads = λ rest ahead. record { count = refl; world = refl } }

pub count_some-requires : goal.count_some-requires
count_some-requires c =
    let all = providers_of c.args.assignment.now.cloud.now in
    let list = c.args.assignment.now.list.now in
    let back : asked_in (takings_of c.args.self.now) ≡ asked_in (takings_of c.room.self) = sym c.room.invariant.query in
    record {
      query = c.requires.query ∙ back;
      list = subst (λ (a : Asked). IsListBelow (length all) (length (slots_of a)) list) back c.requires.list;
      candidate = subst (λ (a : Asked). is_candidate all a list ≡ true) back c.requires.candidate;
      fits = c.room.invariant.fits;
      asks = subst (λ (a : Asked). asks_units a ≡ true) back c.requires.asks;
      wanted = c.wants.ensures.wanted c.room-test.true;
      room = c.wants.ensures.room c.room-test.true;
    }

pub room-preserved : goal.room-preserved
room-preserved c =
    let all = providers_of c.args.assignment.now.cloud.now in
    let asked = asked_in (takings_of c.args.self.now) in
    let list = c.args.assignment.now.list.now in
    let now = c.room.self in
    let next = c.count_some.new.self in
    let counts = subst (λ (a : Asked). (rest : List (List ℕ)) → AreAhead (world_at all now) a (list ∷ rest) → CountsSome a (stand_of all now) (stand_of all next) (list ∷ rest)) c.room.invariant.query c.count_some.ensures.counts in
    record {
      query = c.count_some.ensures.query ∙ c.room.invariant.query;
      fits = c.count_some.ensures.fits;
      small = c.count_some.ensures.small;
      ahead = λ rest ahead. (counts rest (c.room.invariant.ahead rest ahead)).ahead;
      leads = λ rest ahead. leads_on asked (stand_of all c.args.self.now) (stand_of all now) (stand_of all next) (c.room.invariant.leads rest ahead) (counts rest (c.room.invariant.ahead rest ahead)).leads;
    }

pub returns-clause-counts : goal.returns-clause-counts
returns-clause-counts c = λ rest ahead.
    let all = providers_of c.args.assignment.now.cloud.now in
    let asked = asked_in (takings_of c.args.self.now) in
    let list = c.args.assignment.now.list.now in
    let now = world_at all c.room.self in
    rw (c.keep_front.ensures.filled, c.keep_front.ensures.wanted) (record {
      ahead = λ wants. elim (c.wants.ensures.otherwise c.room-test.false) [
        | inl over ↦ absurd (wants over)
        | inr full ↦ ahead_past now asked list rest (leaves now asked list (subst (λ (a : Asked). sums now (assigned a list) ≡ false) c.requires.query full)) (c.room.invariant.ahead rest ahead)
      ];
      leads = c.room.invariant.leads rest ahead;
    })

pub returns-clause-full : goal.returns-clause-full
returns-clause-full c = λ wants. elim (c.wants.ensures.otherwise c.room-test.false) [
  | inl over ↦ absurd (wants (c.keep_front.ensures.wanted ∙ over))
  | inr full ↦ c.in_ok-keep_front.ensures.full full
]
