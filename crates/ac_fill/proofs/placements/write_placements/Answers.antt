use Rattle.std.proofs.Common.{is_some, ◌≡◌, ◌∙◌, ◌∷◌, ℕ, Option, Some, true, false, Err, length, sym, ap, subst, refl, arith}
use Rattle.std.specs.Result.{result_from_control_flow}
use Rattle.ac_cloud.specs.Cloud.CloudWorld.{providers_of}
use Rattle.ac_query.specs.Asked.{Asked, slots_of}
use Rattle.ac_query.specs.Shown.Queries.{asked_of}
use Rattle.ac_report.proofs.Pages.Paging.{all_head, all_tail, is_next, tail_given}
use Rattle.ac_rules.specs.Judge.{is_candidate}
use Rattle.ac_rules.specs.Lists.{IsListBelow, tail_of}
use Rattle.ac_rules.specs.Placed.{assigned}
use Rattle.ac_rules.specs.Together.{sums}
use Rattle.ac_rules.proofs.Lists.RestLemmas.{IsChosen}
use Rattle.ac_fill.specs.Ends.{AreAhead, Ends, Stand, stand_of, start_of, takings_of, world_at}
use Rattle.ac_fill.specs.Filled.{asks_units}
use Rattle.ac_fill.specs.Shown.{asked_in}
use Rattle.ac_report.proofs.Pages.Writing.{same_fault}
use Rattle.ac_fill.proofs.Ending.{ends_err, ends_halted, ends_none}
use Rattle.ac_fill.proofs.Placing.{ahead_front, ahead_none, ahead_whole, chosen_behind, chosen_whole, filled_none, filled_over}
use Rattle.ac_fill.proofs.placements.write_placements.Goals as goal

pub lists-init : goal.lists-init
lists-init g c =
    let all = providers_of c.args.cloud.now in
    let asked = asked_of c.args.query.now in
    let left = g.S.Source.left c.args.source.now in
    let stand = c.in_ok-filling.ensures.stand ∙ ap (λ (wanted : Option ℕ). start_of wanted all) c.limit.ensures in
    record {
      query = c.in_ok-filling.ensures.query;
      fits = c.in_ok-filling.ensures.fits;
      chosen = chosen_whole all asked left c.requires.whole;
      ahead = λ _. subst (λ (s : Stand). AreAhead s.world asked left) (sym stand) (ahead_whole all asked left c.requires.whole);
      small = omega (arith, ap (λ (s : Stand). s.count) stand);
      stops = λ may. may;
      goes = λ r end ends. subst (λ (s : Stand). Ends g.W.Sink.taken g.W.Sink.failures (is_some c.args.names) all asked s c.args.out.now end r) stand ends;
    }

pub returns-in-None : goal.returns-in-None
returns-in-None g c =
    let all = providers_of c.args.cloud.now in
    let asked = asked_of c.args.query.now in
    let s = stand_of all c.lists.filling in
    let none = ahead_none s.world asked (g.S.Source.left c.lists.source) (rw c.in-None.is at c.in_ok-next.ensures.head) (c.lists.invariant.ahead (λ e. let over = c.is_over.ensures.1 e in cc)) in
    let done = c.lists.invariant.goes _ _ (ends_none all asked s c.lists.filling.filled _ (filled_none s.wanted s.world asked none) refl c.lists.invariant.small refl c.lists.invariant.fits) in record { ends = done; stopped = λ e. absurd (cc) }

pub invariant_of-assignment : goal.invariant_of-assignment
invariant_of-assignment g c =
    let asked = asked_of c.args.query.now in
    let chosen = all_head (IsChosen (providers_of c.args.cloud.now) asked) (g.S.Source.left c.lists.source) c.in-Some.list.now (rw c.in-Some.is at c.in_ok-next.ensures.head) c.lists.invariant.chosen in
    record { slots = omega (arith, chosen.list.long); providers = chosen.list.below }

pub place-requires : goal.place-requires
place-requires g c =
    let all = providers_of c.args.cloud.now in
    let asked = asked_of c.args.query.now in
    let chosen = all_head (IsChosen all asked) (g.S.Source.left c.lists.source) c.in-Some.list.now (rw c.in-Some.is at c.in_ok-next.ensures.head) c.lists.invariant.chosen in
    let back : asked ≡ asked_in (takings_of c.lists.filling) = sym c.lists.invariant.query in
    record {
      names = c.requires.names;
      query = back;
      list = subst (λ (a : Asked). IsListBelow (length all) (length (slots_of a)) c.in-Some.list.now) back chosen.list;
      candidate = subst (λ (a : Asked). is_candidate all a c.in-Some.list.now ≡ true) back chosen.candidate;
      fits = c.lists.invariant.fits;
      asks = subst (λ (a : Asked). asks_units a ≡ true) back c.requires.asks;
      small = c.lists.invariant.small;
    }

pub lists-preserved : goal.lists-preserved
lists-preserved g c =
    let all = providers_of c.args.cloud.now in
    let asked = asked_of c.args.query.now in
    let left = g.S.Source.left in
    let x = c.in-Some.list.now in
    let wants : c.lists.filling.wanted ≡ Some 0 → ⊥ = λ e. let over = c.is_over.ensures.1 e in cc in
    let next = is_next c.lists.filling.wanted (left c.lists.source) x wants (rw c.in-Some.is at c.in_ok-next.ensures.head) in
    let tail : left c.next.follows.lender-at-none ≡ tail_of (left c.lists.source) = tail_given result_from_control_flow (g.S.Source.left c.lists.source) c.branch-next.ensures c.in_ok-next.is refl c.next.follows.holds-at-none.0 in
    let ahead : AreAhead (world_at all c.lists.filling) asked (x ∷ tail_of (left c.lists.source)) = subst (AreAhead (world_at all c.lists.filling) asked) next.first (c.lists.invariant.ahead wants) in
    let placed = rw c.lists.invariant.query at c.in_ok-place-in-Some.ensures.places (tail_of (left c.lists.source)) in
    let places = placed ahead in
    let after = c.place.new.self in
    let query : asked_in (takings_of after) ≡ asked = c.in_ok-place-in-Some.ensures.query ∙ c.lists.invariant.query in
    let passes = rw c.deref.ensures.value at (rw tail at c.skip.ensures.passes) in
    record {
      query = query;
      fits = c.in_ok-place-in-Some.ensures.fits;
      chosen = chosen_behind (IsChosen all asked) _ _ _ passes (all_tail (IsChosen all asked) (left c.lists.source) c.lists.invariant.chosen);
      ahead = λ more. ahead_front (world_at all after) asked _ _ _ (subst (λ (a : Asked). sums (world_at all after) (assigned a after.full.items) ≡ false) query (c.in_ok-place-in-Some.ensures.full more)) passes (places.ahead more);
      small = c.in_ok-place-in-Some.ensures.small;
      stops = λ may. c.lists.invariant.stops (c.next.follows.holds-at-none.1 (c.skip.ensures.stops may));
      goes = λ r end ends. c.lists.invariant.goes r end (places.goes r end ends);
    }

pub returns : goal.returns
returns g c =
    let all = providers_of c.args.cloud.now in
    let asked = asked_of c.args.query.now in
    let s = stand_of all c.lists.filling in
    let done = c.lists.invariant.goes _ _ (ends_none all asked s c.lists.filling.filled _ (filled_over s.wanted s.world asked (c.is_over.ensures.0 c.lists-test.false)) refl c.lists.invariant.small refl c.lists.invariant.fits) in record { ends = done; stopped = λ e. absurd (cc) }

pub returns-in_err-place-in-Some : goal.returns-in_err-place-in-Some
returns-in_err-place-in-Some g c =
    let all = providers_of c.args.cloud.now in
    let asked = asked_of c.args.query.now in
    let left = g.S.Source.left in
    let x = c.in-Some.list.now in
    let wants : c.lists.filling.wanted ≡ Some 0 → ⊥ = λ e. let over = c.is_over.ensures.1 e in cc in
    let next = is_next c.lists.filling.wanted (left c.lists.source) x wants (rw c.in-Some.is at c.in_ok-next.ensures.head) in
    let ahead : AreAhead (world_at all c.lists.filling) asked (x ∷ tail_of (left c.lists.source)) = subst (AreAhead (world_at all c.lists.filling) asked) next.first (c.lists.invariant.ahead wants) in
    let placed = rw c.lists.invariant.query at c.in_err-place-in-Some.ensures.places (tail_of (left c.lists.source)) in
    let places = placed ahead in
    record {
      ends = ends_err all asked c.from_residual-in_err-place-in-Some.ensures.1 (c.lists.invariant.goes (Err _) _ places.stops);
      stopped = λ e. absurd (c.in_err-place-in-Some.ensures.untried (ap Err (same_fault c.from_residual-in_err-place-in-Some.result _ _ c.from_residual-in_err-place-in-Some.ensures.1 e)));
    }

pub returns-in_err-next : goal.returns-in_err-next
returns-in_err-next g c =
    let all = providers_of c.args.cloud.now in
    let asked = asked_of c.args.query.now in
    record {
      ends = ends_err all asked c.from_residual-in_err-next.ensures.1 (c.lists.invariant.goes (Err _) _ (ends_halted all asked (stand_of all c.lists.filling) _));
      stopped = λ _. c.lists.invariant.stops c.in_err-next.ensures.stopped;
    }
