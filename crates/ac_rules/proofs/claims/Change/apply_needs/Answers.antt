use Rattle.std.proofs.Common.{◌≡◌, ◌∙◌, ◌+◌, [], ◌∷◌, map, drop, length, sym, ap, arith}
use Rattle.std.proofs.lemmas.List.{drop_all, drop_more}
use Rattle.ac_cloud.specs.Cloud.CloudWorld.{providers_of}
use Rattle.ac_query.specs.Shown.Groups.{need_entry}
use Rattle.ac_rules.specs.Shown.Changes.{asked_of_one, changed}
use Rattle.ac_rules.proofs.EachSlot.ClaimLemmas.{changed_size, needs_end, needs_more}
use Rattle.ac_rules.proofs.claims.Change.apply_needs.Goals as goal

pub loop-need-preserved : goal.loop-need-preserved
loop-need-preserved c =
    let i = c.loop-need.need-index in
    let needs = c.args.needs.now in
    let all = providers_of c.loop-need.cloud in
    let ix = c.args.ix in
    let first : drop i needs ≡ c.need-item.result ∷ drop (i + 1) needs = drop_more needs i c.need-item.result c.loop-need-test.true ∙ ap (λ need. need ∷ drop (i + 1) needs) (sym c.need-item.is) in
    record {
      inside = omega (arith, c.loop-need.invariant.inside, ap length c.apply.ensures.providers, changed_size c.args.self (asked_of_one ix (need_entry c.need-item.result ∷ [])) all);
      rest = ap (changed c.args.self (asked_of_one ix (map need_entry (drop (i + 1) needs)))) c.apply.ensures.providers
          ∙ needs_more c.args.self ix (need_entry c.need-item.result) (map need_entry (drop (i + 1) needs)) all
          ∙ ap (λ l. changed c.args.self (asked_of_one ix (map need_entry l)) all) (sym first) ∙ c.loop-need.invariant.rest;
      sizes = c.apply.ensures.sizes ∙ c.loop-need.invariant.sizes;
      root_lists = c.apply.ensures.root_lists ∙ c.loop-need.invariant.root_lists;
    }

pub returns-clause-providers : goal.returns-clause-providers
returns-clause-providers c =
    let all = providers_of c.loop-need.cloud in
    let none = drop_all c.loop-need.need-index c.args.needs.now c.loop-need-test.false in
    sym (needs_end c.args.self c.args.ix all) ∙ ap (λ l. changed c.args.self (asked_of_one c.args.ix (map need_entry l)) all) (sym none) ∙ c.loop-need.invariant.rest
