use Rattle.std.proofs.Common.{◌≡◌, ◌∙◌, ◌&&◌, ap, ap₂, arith}
use Rattle.std.specs.List.{list_any}
use Rattle.ac_cloud.specs.Cloud.CloudWorld.{providers_of}
use Rattle.ac_cloud.specs.World.{is_member, provider_at, root_provider}
use Rattle.ac_rules.specs.Shown.Assignments.{placed_of}
use Rattle.ac_rules.proofs.EachSlot.AggregateLemmas.{forbidden_either}
use Rattle.ac_rules.proofs.assignment.Placed.is_in_forbidden.Goals as goal

pub returns-then-forbids_one_of : goal.returns-then-forbids_one_of
returns-then-forbids_one_of c =
    let is = forbidden_either (providers_of c.args.self.now.cloud.now) (placed_of c.args.self.now) (placed_of c.args.self.now).slot.group.member_of in
    grind (arith, is, c.if-forbids_one_of.true, c.forbids_one_of.ensures, c.its_provider-provider.ensures.cloud, c.its_provider-provider.ensures.place)

pub returns-then-not-is_suffixed : goal.returns-then-not-is_suffixed
returns-then-not-is_suffixed c =
    let all = providers_of c.args.self.now.cloud.now in
    let x = placed_of c.args.self.now in
    let its = c.its_provider-provider.ensures in
    let of_root : c.forbids_one_of-then-not-is_suffixed.result
    ≡ list_any (λ rule. rule.forbids && list_any (is_member (root_provider all (provider_at all x.provider))) rule.ids) x.slot.group.member_of =
    c.forbids_one_of-then-not-is_suffixed.ensures
    ∙ ap (λ p. list_any (λ rule. rule.forbids && list_any (is_member p) rule.ids) x.slot.group.member_of)
    (c.root.ensures.root ∙ ap₂ (λ cloud ix. root_provider (providers_of cloud) (provider_at (providers_of cloud) ix)) its.cloud its.place) in
    grind (arith, forbidden_either all x x.slot.group.member_of, of_root, c.if-forbids_one_of.false, c.forbids_one_of.ensures, its.cloud, its.place, c.is_suffixed.ensures, c.if-not-is_suffixed.true)
