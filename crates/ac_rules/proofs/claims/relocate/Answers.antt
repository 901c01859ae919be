use Rattle.std.proofs.Common.{◌≡◌, ◌∙◌, ℕ, List, length, sym, true, false, Some, ap, refl, arith}
use Rattle.ac_cloud.proofs.InOrder.{entries_rise}
use Rattle.ac_cloud.specs.Cloud.CloudWorld.{providers_of}
use Rattle.ac_cloud.specs.World.{Provider}
use Rattle.ac_query.specs.Asked.{Asked}
use Rattle.ac_query.specs.Shown.Queries.{asked_of}
use Rattle.ac_rules.specs.Claims.{claimed, is_in_use, move_verdict, moved, released}
use Rattle.ac_rules.specs.Judge.{judge}
use Rattle.ac_rules.specs.Placed.{assigned}
use Rattle.ac_rules.specs.Shown.Changes.{changed}
use Rattle.ac_rules.specs.Together.{sum_on}
use Rattle.ac_rules.specs.declared.claims.Change.TheVariants.{Restore}
use Rattle.ac_rules.specs.declared.verdict.Verdict.{Verdict}
use Rattle.ac_rules.specs.declared.verdict.Verdict.TheVariants.{Candidate}
use Rattle.ac_rules.proofs.EachSlot.ClaimLemmas.{released_size, restore_is}
use Rattle.ac_rules.proofs.claims.relocate.Goals as goal

pub returns-then-not-release-clause-verdict : goal.returns-then-not-release-clause-verdict
unfolding move_verdict
returns-then-not-release-clause-verdict c =
    let no : is_in_use (providers_of c.args.cloud.now) (assigned (asked_of c.args.query.now) c.args.from.now) ≡ false = sym c.release.ensures.in_use ∙ c.if-not-release.true in
    rw no refl

pub claim-verdict-requires-clause-providers : goal.claim-verdict-requires-clause-providers
claim-verdict-requires-clause-providers c = λ k d inside.
    let size = ap length (c.release.ensures.released c.if-not-release.false) ∙ released_size (providers_of c.args.cloud.now) (assigned (asked_of c.args.query.now) c.args.from.now) in
    omega (arith, c.requires.others k d inside, size)

pub apply_all-requires-clause-providers : goal.apply_all-requires-clause-providers
apply_all-requires-clause-providers c = λ k d inside.
    let size = ap length (c.release.ensures.released c.if-not-release.false) ∙ released_size (providers_of c.args.cloud.now) (assigned (asked_of c.args.query.now) c.args.from.now) in
    let kept = ap (λ cloud. length (providers_of cloud)) (c.claim-verdict.ensures.otherwise (λ is. let wrong = sym c.in-Broken.is ∙ is in cc)) in
    omega (arith, c.requires.providers k d inside, size, kept)

-- what is said where so much is in use
said : (all new : List Provider) (asked : Asked) (from to : List ℕ) → true ≡ is_in_use all (assigned asked from) → new ≡ released all (assigned asked from)
    → Some (judge new asked to) ≡ move_verdict all asked from to
unfolding move_verdict
said all new asked from to uses is = rw (sym uses) (ap (λ all. Some (judge all asked to)) is)

pub returns-in-Broken-clause-verdict : goal.returns-in-Broken-clause-verdict
returns-in-Broken-clause-verdict c =
    ap Some c.claim-verdict.ensures.verdict
    ∙ said (providers_of c.args.cloud.now) (providers_of c.release.new.cloud) (asked_of c.args.query.now) c.args.from.now c.args.to.now
    (sym c.if-not-release.false ∙ c.release.ensures.in_use) (c.release.ensures.released c.if-not-release.false)

pub returns-in-Broken-clause-otherwise : goal.returns-in-Broken-clause-otherwise
returns-in-Broken-clause-otherwise c = λ isnt.
    let all = providers_of c.args.cloud.now in
    let xs = assigned (asked_of c.args.query.now) c.args.from.now in
    c.apply_all.ensures.providers
    ∙ ap (changed Restore (sum_on xs))
    (ap providers_of (c.claim-verdict.ensures.otherwise (λ is. isnt (ap Some is))) ∙ c.release.ensures.released c.if-not-release.false)
    ∙ restore_is all xs (entries_rise c.args.cloud.now) (sym c.release.ensures.counted ∙ c.if-not-release.false)

pub returns-in_default-clause-verdict : goal.returns-in_default-clause-verdict
returns-in_default-clause-verdict c =
    ap Some c.claim-verdict.ensures.verdict
    ∙ said (providers_of c.args.cloud.now) (providers_of c.release.new.cloud) (asked_of c.args.query.now) c.args.from.now c.args.to.now
    (sym c.if-not-release.false ∙ c.release.ensures.in_use) (c.release.ensures.released c.if-not-release.false)

some_is : (v : Verdict) → Some v ≡ Some Candidate → v ≡ Candidate
some_is v e = cc

pub returns-in_default-clause-moved : goal.returns-in_default-clause-moved
unfolding moved
returns-in_default-clause-moved c = λ is.
    c.claim-verdict.ensures.claimed (some_is c.claim-verdict.result is)
    ∙ ap (λ all. claimed all (assigned (asked_of c.args.query.now) c.args.to.now)) (c.release.ensures.released c.if-not-release.false)
