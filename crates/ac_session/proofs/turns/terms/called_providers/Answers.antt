use Rattle.std.proofs.Common.{◌∙◌, ◌++◌, ◌∷◌, ◌<◌, ℕ, List, [], ap, ap₂, arith, length, map, sym, take}
use Rattle.std.proofs.lemmas.List.{get_or-map, length-map, map-append, take_all, take_more}
use Rattle.ac_cloud.specs.Cloud.CloudWorld.{providers_of}
use Rattle.ac_cloud.specs.World.{no_provider}
use Rattle.ac_report.specs.Called.{called_of, providers_called}
use Rattle.ac_tables.specs.Called.{called_shown}
use Rattle.ac_session.proofs.turns.terms.called_providers.Goals as goal

abbrev one_called : ℕ → List ℕ → ℕ × List ℕ
one_called id name = (id, name)

pub loop-ix-preserved : goal.loop-ix-preserved
loop-ix-preserved c =
    let all = providers_of c.args.cloud.now in
    let before = take c.loop-ix.ix (providers_called all) in
    let one : ℕ × List ℕ = (c.id.result, c.in_ok-name.name.items) in
    let low : c.loop-ix.ix < length all = omega (arith, c.loop-ix-test.true, c.len-ix-end.ensures) in
    let next = get_or-map called_of all c.loop-ix.ix no_provider one low ∙ sym (ap₂ one_called c.id.ensures (c.in_ok-name.ensures.items_if_clones_equal (λ x y e. e) ∙ c.name.ensures)) in
    ap (map called_shown) c.in_ok-push.ensures.items ∙ map-append called_shown c.loop-ix.called.items _
    ∙ ap (λ (l : List (ℕ × List ℕ)). l ++ one ∷ []) c.loop-ix.invariant
    ∙ ap (λ (x : ℕ × List ℕ). before ++ x ∷ []) (sym next) ∙ sym (take_more (providers_called all) c.loop-ix.ix one (omega (arith, low, length-map all called_of)))

pub returns : goal.returns
returns c =
    let called = providers_called (providers_of c.args.cloud.now) in
    c.loop-ix.invariant ∙ take_all c.loop-ix.ix called (omega (arith, c.loop-ix-test.false, c.len-ix-end.ensures, length-map (providers_of c.args.cloud.now) called_of))
