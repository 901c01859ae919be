use Rattle.std.proofs.Common.{sym, ◌∙◌, arith}
use Rattle.std.proofs.lemmas.Bool.{eqb-true}
use Rattle.ac_query.specs.Shown.Queries.{asked_of}
use Rattle.ac_cloud.specs.Cloud.CloudWorld.{providers_of}
use Rattle.ac_prune.proofs.Search.GroupLemmas.{met_there}
use Rattle.ac_prune.proofs.choices.marks_for.Goals as goal

pub are_of_one_group-requires-clause-slot : goal.are_of_one_group-requires-clause-slot
are_of_one_group-requires-clause-slot c = omega (arith, c.requires.slot)

pub returns-then-are_of_one_group : goal.returns-then-are_of_one_group
returns-then-are_of_one_group c =
    let same = eqb-true _ _ (sym c.are_of_one_group.ensures ∙ c.if-are_of_one_group.true) in
    met_there (providers_of c.args.cloud.now) (asked_of c.args.query.now) 0 c.args.s c.args.first (omega (arith, c.requires.slot)) c.requires.slot same c.requires.first
