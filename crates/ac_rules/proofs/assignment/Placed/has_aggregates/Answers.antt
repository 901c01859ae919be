use Rattle.std.proofs.Common.{◌≡◌, ◌||◌, not, arith, ap, ◌∙◌, rules}
use Rattle.std.specs.List.{filter, list_all, list_any}
use Rattle.ac_cloud.specs.Cloud.CloudWorld.{providers_of}
use Rattle.ac_query.specs.Shown.Groups.{rule_shown}
use Rattle.ac_rules.specs.Own.{aggregates_fit, counts_in}
use Rattle.ac_rules.specs.Shown.Assignments.{placed_of}
use Rattle.ac_rules.proofs.ChainLemmas.{all_items}
use Rattle.ac_rules.proofs.EachSlot.AggregateLemmas.{all_asking, rules_met}
use Rattle.ac_rules.proofs.assignment.Placed.has_aggregates.Goals as goal

pub returns-then-not-is_in_forbidden : goal.returns-then-not-is_in_forbidden
unfolding aggregates_fit
returns-then-not-is_in_forbidden c =
    let all = providers_of c.args.self.now.cloud.now in
    let x = placed_of c.args.self.now in
    let each : c.all.result ≡ list_all (λ rule. rule.forbids || list_any (λ a. counts_in all x a) rule.ids) x.slot.group.member_of =
    all_items rule_shown _ _ _ _ _ c.all.ensures.ran c.iter.ensures.rest (λ x b q k. search rules)
    ∙ ap (list_all _) (c.asking.ensures ∙ ap (λ entry. filter (λ rule. not rule.forbids) entry.1.member_of) c.group.ensures)
    ∙ all_asking (λ rule. list_any (λ a. counts_in all x a) rule.ids) x.slot.group.member_of in
    grind (arith, rules_met all x x.slot.group.member_of, each, c.is_in_forbidden.ensures, c.if-not-is_in_forbidden.true)

pub returns-else-not-is_in_forbidden : goal.returns-else-not-is_in_forbidden
unfolding aggregates_fit
returns-else-not-is_in_forbidden c =
    let met = rules_met (providers_of c.args.self.now.cloud.now) (placed_of c.args.self.now) (placed_of c.args.self.now).slot.group.member_of in
    grind (arith, met, c.is_in_forbidden.ensures, c.if-not-is_in_forbidden.false)
