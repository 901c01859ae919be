use Rattle.std.proofs.lemmas.Grind.{common_steps}
use Rattle.std.proofs.Common.{arith, refl}
use Rattle.std.proofs.lemmas.Option.{slice_get_read}
use Rattle.ac_query.specs.Asked.{slots_of}
use Rattle.ac_query.specs.Shown.Queries.{asked_of}
use Rattle.ac_query.proofs.Slots.{slot_at, slot_there, slots_count, group_within}
use Rattle.ac_query.proofs.query.Query.slot.Goals as goal

pub returns-clause-shown : goal.returns-clause-shown
returns-clause-shown c = grind (arith, common_steps, slots_count, slot_at, slice_get_read)

pub returns-clause-there : goal.returns-clause-there
returns-clause-there c = slot_there (slots_of (asked_of c.args.self.now)) c.args.s _ c.requires (returns-clause-shown c)

pub returns-clause-inside : goal.returns-clause-inside
returns-clause-inside c = group_within (asked_of c.args.self.now).groups c.index.result.now _ refl (returns-clause-there c)
