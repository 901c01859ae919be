use Rattle.std.proofs.Common.{◌≡◌, ◌∙◌, ◌<◌, ◌≤◌, ◌∷◌, ◌++◌, ℕ, List, true, nat_lt, replicate, sym, ap₂, subst, arith}
use Rattle.ac_cloud.specs.Cloud.CloudWorld.{providers_of}
use Rattle.ac_cloud.specs.World.{Provider}
use Rattle.ac_query.specs.Asked.{Asked}
use Rattle.ac_rules.specs.Placed.{assigned}
use Rattle.ac_rules.specs.Together.{sums}
use Rattle.ac_fill.specs.Ends.{AreAhead, Stand, stand_of, takings_of, world_at}
use Rattle.ac_fill.specs.Filled.{filled, units_left}
use Rattle.ac_fill.specs.Shown.{asked_in, with_more, with_taken, TimesFit}
use Rattle.ac_fill.proofs.Again.{IsWanted, ahead_again, are_taken, filled_again, leads_again, some_room, units_again, wanted_less, wanted_most, wanted_some}
use Rattle.ac_fill.proofs.Ending.{same_asked}
use Rattle.ac_fill.proofs.placements.Filling.count_some.Goals as goal

pub take_times-requires-clause-small : goal.take_times-requires-clause-small
take_times-requires-clause-small c = λ p class some.
    let all = providers_of c.args.assignment.now.cloud.now in
    let list = c.args.assignment.now.list.now in
    let old = takings_of c.args.self.now in
    let most = c.times-room.result in
    let n = c.as_wanted-times.result in
    let within : n ≤ most = omega (arith, c.as_wanted-times.ensures, wanted_less c.args.self.now.wanted most) in
    let fit = subst (λ (a : Asked). TimesFit all old (assigned a list) n) c.requires.query (c.times-room.ensures.small n within) in
    let fits = fit p class some in omega (arith, fits)

pub returns : goal.returns
returns c =
    let cloud = c.args.assignment.now.cloud.now in
    let all = providers_of cloud in
    let list = c.args.assignment.now.list.now in
    let old = takings_of c.args.self.now in
    let new = c.take_times.new.self in
    let asked = asked_in old in
    let now = world_at all c.args.self.now in
    let wanted = c.args.self.now.wanted in
    let most = c.times-room.result in
    let n = c.as_wanted-times.result in
    let within : n ≤ most = omega (arith, c.as_wanted-times.ensures, wanted_less wanted most) in
    let fit = subst (λ (a : Asked). TimesFit all old (assigned a list) n) c.requires.query (c.times-room.ensures.small n within) in
    let room = subst (λ (a : Asked). (k : ℕ) → k < 4294967295 → sums (with_more old (assigned a list) k all) (assigned a list) ≡ nat_lt k most) c.requires.query
    c.times-room.ensures.room in
    let kept = subst (λ (a : Asked). sums now (assigned a list) ≡ true) c.requires.query c.requires.room in
    let taken = are_taken cloud asked old new list n most c.requires.fits c.requires.list c.requires.candidate room (omega (arith, c.times-room.type_inv)) within fit
    c.take_times.ensures.same c.take_times.ensures.taken in
    let some : 0 < n =
    omega (arith, c.as_wanted-times.ensures, wanted_some wanted most c.requires.wanted (some_room all old asked list most kept (room 0 (omega arith)))) in
    let fewer = units_again asked c.requires.asks list n now taken.chosen in
    let next : Stand = record { wanted = c.fewer-self.result; world = with_taken new all; count = c.saturating_add-self.result } in
    record {
      query = same_asked old new c.take_times.ensures.same;
      fits = taken.fits;
      small = omega (arith, c.saturating_add-self.ensures);
      less = subst (λ (w : List Provider). units_left w < units_left now) (sym taken.world) (omega (arith, fewer, some));
      counts = λ rest ahead.
          let enough : IsWanted n wanted = subst (λ (m : ℕ). IsWanted m wanted) (sym c.as_wanted-times.ensures) (wanted_most wanted most) in
          let first = filled_again asked c.requires.asks list n wanted now rest enough ahead taken.chosen
          ∙ ap₂ (λ w l. replicate n list ++ filled l w asked) (sym taken.world) (sym c.fewer-self.ensures) in
          record {
            ahead = subst (λ (w : List Provider). AreAhead w asked (list ∷ rest)) (sym taken.world) (ahead_again n now asked list (list ∷ rest) ahead);
            leads = leads_again asked (stand_of all c.args.self.now) next n list first c.saturating_add-self.ensures taken.world;
          };
    }
