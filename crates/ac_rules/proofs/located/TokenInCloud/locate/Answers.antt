use Rattle.std.proofs.Common.{◌≡◌, ◌∙◌, ◌+◌, ◌<◌, ◌++◌, ℕ, List, length, drop, get_or, sym, ap, arith}
use Rattle.std.specs.Option.{option_map}
use Rattle.ac_cloud.specs.Cloud.CloudWorld.{providers_of}
use Rattle.ac_rules.specs.Located.{places_of}
use Rattle.ac_query.specs.Tokens.{ids_of}
use Rattle.ac_rules.proofs.Locating.{located_more, located_all}
use Rattle.ac_rules.proofs.located.TokenInCloud.locate.Goals as goal

pub loop-id-preserved : goal.loop-id-preserved
loop-id-preserved c =
    let all = providers_of c.args.cloud.now in
    let ids = ids_of c.args.self.now in
    let i = c.loop-id.id-index in
    let inside : c.loop-id.id-index < length (ids_of c.args.self.now) = omega (arith, c.loop-id-test.true, ap length c.ids-id-items.ensures) in
    let here : get_or (ids_of c.args.self.now) c.loop-id.id-index c.id-item.result ≡ c.id-item.result = ap (λ (l : List ℕ). get_or l c.loop-id.id-index c.id-item.result) (sym c.ids-id-items.ensures) ∙ sym c.id-item.is in
    located_more all ids i c.loop-id.places.items c.id-item.result c.in-Some.place inside here (sym c.index_of.ensures ∙ c.in-Some.is) c.loop-id.invariant
    ∙ ap (λ (l : List ℕ). option_map (λ rest. l ++ rest) (places_of (providers_of c.args.cloud.now) (drop (c.loop-id.id-index + 1) (ids_of c.args.self.now)))) (sym c.in_ok-push.ensures.items)

pub returns : goal.returns
returns c =
    located_all (providers_of c.args.cloud.now) (ids_of c.args.self.now) c.loop-id.id-index c.loop-id.places.items (omega (arith, c.loop-id-test.false, ap length c.ids-id-items.ensures)) c.loop-id.invariant
