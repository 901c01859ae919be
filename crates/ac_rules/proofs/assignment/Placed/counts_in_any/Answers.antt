use Rattle.std.proofs.Common.{arith}
use Rattle.ac_cloud.specs.Cloud.CloudWorld.{providers_of}
use Rattle.ac_query.specs.Shown.Groups.{rule_shown}
use Rattle.ac_rules.specs.Shown.Assignments.{placed_of}
use Rattle.ac_rules.proofs.EachSlot.TraitLemmas.{counted_either}
use Rattle.ac_rules.proofs.assignment.Placed.counts_in_any.Goals as goal

pub returns-then-is_in_any : goal.returns-then-is_in_any
returns-then-is_in_any c =
    let is = counted_either (providers_of c.args.self.now.cloud.now) (placed_of c.args.self.now) (rule_shown c.args.rule.now).ids in
    grind (arith, is, c.if-is_in_any.true, c.is_in_any.ensures, c.its_provider.ensures.cloud, c.its_provider.ensures.place)

pub returns-then-not-is_suffixed : goal.returns-then-not-is_suffixed
returns-then-not-is_suffixed c =
    let is = counted_either (providers_of c.args.self.now.cloud.now) (placed_of c.args.self.now) (rule_shown c.args.rule.now).ids in
    grind (arith, is, c.if-is_in_any.false, c.is_in_any.ensures, c.its_provider.ensures.cloud, c.its_provider.ensures.place, c.is_suffixed.ensures, c.if-not-is_suffixed.true, c.has_roots_of.ensures)
