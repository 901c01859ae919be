use Rattle.std.proofs.Common.{is_some, ◌≡◌, ◌∙◌, ◌<◌, ◌+◌, ◌∷◌, ℕ, List, Err, true, false, refl, ap, sym, ap₂, subst, arith, inl, inr}
use Rattle.ac_cloud.specs.Cloud.CloudWorld.{providers_of}
use Rattle.ac_cloud.specs.World.{Provider}
use Rattle.ac_query.specs.Asked.{Asked}
use Rattle.ac_report.specs.Outcomes.{one_less}
use Rattle.ac_report.specs.Called.{line_by}
use Rattle.ac_report.specs.declared.fault.PageFault.TheVariants as fault
use Rattle.ac_rules.specs.Claims.{claimed}
use Rattle.ac_rules.specs.Placed.{assigned}
use Rattle.ac_rules.specs.Together.{sum_on, sums}
use Rattle.ac_fill.specs.Ends.{AreAhead, Stand, stand_of, takings_of, world_at}
use Rattle.ac_fill.specs.Filled.{filled, units_left}
use Rattle.ac_fill.specs.Shown.{asked_in, count_in, taken_in, with_taken, SumsFit}
use Rattle.ac_report.proofs.Pages.Writing.{same_fault}
use Rattle.ac_fill.proofs.Ending.{ends_on, ends_refused, ends_stopped, is_step, leaves, places_err, same_asked, stays}
use Rattle.ac_fill.proofs.Placing.{ahead_after, ahead_first, ahead_past, filled_first}
use Rattle.ac_fill.proofs.Units.{claim_takes}
use Rattle.ac_fill.proofs.placements.Filling.place.Goals as goal

pub returns-in_err-put_line_by-clause-places : goal.returns-in_err-put_line_by-clause-places
returns-in_err-put_line_by-clause-places g c = λ rest e.
    let all = providers_of c.args.assignment.now.cloud.now in
    let asked = asked_in (takings_of c.args.self.now) in
    places_err all asked (stand_of all c.room.self) rest c.from_residual.ensures.1
    (c.room.invariant.goes rest e (Err fault.NoMemory) _ (ends_refused all asked (stand_of all c.room.self) _))

pub returns-in_err-push_piece-clause-places : goal.returns-in_err-push_piece-clause-places
returns-in_err-push_piece-clause-places g c = λ rest e.
    let all = providers_of c.args.assignment.now.cloud.now in
    let asked = asked_in (takings_of c.args.self.now) in
    let list = c.args.assignment.now.list.now in
    let now = world_at all c.room.self in
    let kept = subst (λ (a : Asked). sums now (assigned a list) ≡ true) c.requires.query (c.wants.ensures.room c.room-test.true) in
    let is = stays all (takings_of c.room.self) asked list c.requires.candidate kept in
    let next : Stand = record { wanted = one_less c.room.self.wanted; world = claimed now (assigned asked list); count = 0 } in
    places_err all asked (stand_of all c.room.self) rest c.from_residual-in_err-push_piece.ensures.1
    (c.room.invariant.goes rest e (Err _) _
    (ends_stopped all asked (stand_of all c.room.self) next list
    (filled_first asked c.requires.asks c.room.self.wanted now list _ (c.wants.ensures.wanted c.room-test.true) (ahead_first now asked list rest is (c.room.invariant.ahead rest e)))
    (c.in_err-push_piece.ensures (line_by (is_some c.args.names) all) list (sym (c.deref.ensures.value ∙ c.in_ok-put_line_by.ensures)))))

pub returns-in_err-push_piece-clause-untried : goal.returns-in_err-push_piece-clause-untried
returns-in_err-push_piece-clause-untried g c = λ e.
    let piece = c.in_err-push_piece.ensures (λ t. t) _ refl in
    (piece.stopped (ap Err (same_fault c.from_residual-in_err-push_piece.result _ _ c.from_residual-in_err-push_piece.ensures.1 e))).0

pub room-smaller : goal.room-smaller
room-smaller g c =
    let cloud = c.args.assignment.now.cloud.now in
    let all = providers_of cloud in
    let asked = asked_in (takings_of c.args.self.now) in
    let list = c.args.assignment.now.list.now in
    let old = takings_of c.room.self in
    let new = c.take.new.self in
    let step = is_step cloud asked old new list c.room.invariant.fits c.requires.list c.requires.candidate
    (subst (λ (a : Asked). sums (world_at all c.room.self) (assigned a list) ≡ true) c.requires.query (c.wants.ensures.room c.room-test.true))
    (subst (λ (a : Asked). SumsFit all old (assigned a list)) c.requires.query (c.wants.ensures.small c.room-test.true)) c.take.ensures.same
    (subst (λ (a : Asked). (p : ℕ) (class : List ℕ) → p < count_in old → taken_in new p class ≡ taken_in old p class + sum_on (assigned a list) p class) c.room.invariant.query c.take.ensures.taken) in
    subst (λ (w : List Provider). units_left w < units_left (world_at all c.room.self)) (sym step.world) (claim_takes (world_at all c.room.self) asked list c.requires.asks step.chosen)

pub room-preserved : goal.room-preserved
room-preserved g c =
    let cloud = c.args.assignment.now.cloud.now in
    let all = providers_of cloud in
    let asked = asked_in (takings_of c.args.self.now) in
    let list = c.args.assignment.now.list.now in
    let old = takings_of c.room.self in
    let new = c.take.new.self in
    let now = world_at all c.room.self in
    let step = is_step cloud asked old new list c.room.invariant.fits c.requires.list c.requires.candidate
    (subst (λ (a : Asked). sums now (assigned a list) ≡ true) c.requires.query (c.wants.ensures.room c.room-test.true))
    (subst (λ (a : Asked). SumsFit all old (assigned a list)) c.requires.query (c.wants.ensures.small c.room-test.true)) c.take.ensures.same
    (subst (λ (a : Asked). (p : ℕ) (class : List ℕ) → p < count_in old → taken_in new p class ≡ taken_in old p class + sum_on (assigned a list) p class) c.room.invariant.query c.take.ensures.taken) in
    let next : Stand = record { wanted = c.one_less-self.result; world = with_taken new all; count = c.saturating_add-self.result } in
    record {
      query = same_asked old new c.take.ensures.same ∙ c.room.invariant.query;
      fits = step.fits;
      small = omega (arith, c.saturating_add-self.ensures);
      ahead = λ rest e. subst (λ (w : List Provider). AreAhead w asked (list ∷ rest)) (sym step.world) (ahead_after now asked (list ∷ rest) (assigned asked list) (c.room.invariant.ahead rest e));
      goes = λ rest e r end ends.
          let first = filled_first asked c.requires.asks c.room.self.wanted now list _ (c.wants.ensures.wanted c.room-test.true) (ahead_first now asked list rest step.chosen.candidate (c.room.invariant.ahead rest e))
          ∙ ap₂ (λ w l. list ∷ filled l w asked) (sym step.world) (sym c.one_less-self.ensures) in
          c.room.invariant.goes rest e r end
          (ends_on all asked (stand_of all c.room.self) next list first c.saturating_add-self.ensures step.world
          (c.in_ok-push_piece.ensures (line_by (is_some c.args.names) all) list (sym (c.deref.ensures.value ∙ c.in_ok-put_line_by.ensures))) r end ends);
    }

pub returns-in_err-keep_front-clause-places : goal.returns-in_err-keep_front-clause-places
returns-in_err-keep_front-clause-places g c = λ rest e.
    let all = providers_of c.args.assignment.now.cloud.now in
    let asked = asked_in (takings_of c.args.self.now) in
    rw (c.keep_front.ensures.filled, c.keep_front.ensures.wanted) (places_err all asked (stand_of all c.room.self) rest c.from_residual-in_err-keep_front.ensures.1
    (c.room.invariant.goes rest e (Err fault.NoMemory) _ (ends_refused all asked (stand_of all c.room.self) _)))

pub returns-clause-places : goal.returns-clause-places
returns-clause-places g c = λ rest e.
    let all = providers_of c.args.assignment.now.cloud.now in
    let asked = asked_in (takings_of c.args.self.now) in
    let list = c.args.assignment.now.list.now in
    let now = world_at all c.room.self in
    rw (c.keep_front.ensures.filled, c.keep_front.ensures.wanted) (record {
      ahead = λ wants. elim (c.wants.ensures.otherwise c.room-test.false) [
        | inl over ↦ absurd (wants over)
        | inr full ↦ ahead_past now asked list rest (leaves now asked list (subst (λ (a : Asked). sums now (assigned a list) ≡ false) c.requires.query full)) (c.room.invariant.ahead rest e)
      ];
      goes = λ r end ends. c.room.invariant.goes rest e r end ends;
      stops = tt;
    })

pub returns-clause-full : goal.returns-clause-full
returns-clause-full g c = λ wants. elim (c.wants.ensures.otherwise c.room-test.false) [
  | inl over ↦ absurd (wants (c.keep_front.ensures.wanted ∙ over))
  | inr full ↦ c.in_ok-keep_front.ensures.full full
]
