use Rattle.std.proofs.Common.{arith}
use Rattle.std.proofs.lemmas.Grind.{common_steps}
use Rattle.std.proofs.Common.{◌∙◌, ap, sym, refl}
use Rattle.std.specs.Option.{option_map}
use Rattle.ac_base.specs.Names.{suffix_bytes}
use Rattle.ac_query.specs.Asked.{slots_of, lists_suffix}
use Rattle.ac_query.specs.Shown.{suffixes_shown}
use Rattle.ac_query.specs.Shown.Groups.{group_entry}
use Rattle.ac_query.specs.Shown.Queries.{asked_of}
use Rattle.ac_query.proofs.Values.NameSets.{contains_text}
use Rattle.ac_query.proofs.Slots.{shown_read, slot_there, listed_is, none_listed}
use Rattle.ac_query.proofs.query.Query.in_subtree.Goals as goal

pub returns-in-Some : goal.returns-in-Some
returns-in-Some c =
    c.contains.ensures
    ∙ contains_text suffix_bytes _ (λ a b. refl) c.index-in-Some.result.now.keys c.in-Some.suffix
    ∙ ap (lists_suffix (suffixes_shown c.index-in-Some.result.now)) (sym (ap (option_map suffix_bytes) c.in-Some.is))
    ∙ listed_is (asked_of c.args.self.now).groups c.slot-slot.result (group_entry c.index.result.now)
    (shown_read group_entry c.args.self.now.groups.items c.slot-slot.result.group c.index.result.now c.slot-slot.ensures.inside c.index.ensures)
    _ c.slot-slot.ensures.shown (slot_there (slots_of (asked_of c.args.self.now)) c.args.s _ c.requires.slot refl)
    _ _ (shown_read suffixes_shown c.args.self.now.subtrees.items c.args.k c.index-in-Some.result.now c.requires.list c.index-in-Some.ensures)

pub returns-in-None : goal.returns-in-None
returns-in-None c = grind (arith, common_steps, none_listed, shown_read, slot_there)
