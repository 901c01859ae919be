use Rattle.std.proofs.Common.{◌≡◌, ◌∙◌, ◌∷◌, [], ap, false, sym, true}
use Rattle.std.specs.Option.{option_map}
use Rattle.ac_cloud.specs.Cloud.CloudWorld.{providers_of}
use Rattle.ac_query.specs.Shown.Queries.{asked_of}
use Rattle.ac_prune.specs.Trees.Keys.{is_there}
use Rattle.ac_search.specs.Hosts.{stands}
use Rattle.ac_search.specs.Shown.Hosts.{Settles}
use Rattle.ac_search.specs.Shown.Walk.{cloud_in, roots_in, path_in, left_of}
use Rattle.ac_search.proofs.Steps.SpentLemmas.{over_spent, settles_still}
use Rattle.ac_search.proofs.Steps.StepLemmas.{may_same}
use Rattle.ac_search.proofs.walk.Walk.leave_path.Goals as goal

pub back-preserved : goal.back-preserved
back-preserved c =
    let w = c.back.self in
    let v = c.take_back.new.self in
    let same = c.take_back.ensures.same in
    let settles : Settles w = settles_still c.args.self.now w c.requires.settles c.back.invariant in
    let none : stands (cloud_in w) (roots_in w) (c.narrowest-ix.result ∷ []) ≡ false = rw (c.back.invariant.cloud, c.back.invariant.roots) (sym (rw c.if-looks_at.false at c.looks_at.ensures)) in
    let there : is_there (path_in w) c.narrowest-ix.result ≡ true = sym (rw c.deref-in-back.ensures.value at c.contains.ensures.value) ∙ c.back-test.true in
    record {
      cloud = ap (λ cloud. providers_of cloud.now) same.cloud ∙ c.back.invariant.cloud;
      query = ap (λ query. asked_of query.now) same.query ∙ c.back.invariant.query;
      roots = ap (option_map (λ marks. marks.items)) same.roots ∙ c.back.invariant.roots;
      stops = λ may. c.back.invariant.stops (may_same w v same may);
      left = over_spent w settles c.narrowest-ix.result none (path_in w) there (left_of v) c.take_back.ensures.passes ∙ c.back.invariant.left;
    }
