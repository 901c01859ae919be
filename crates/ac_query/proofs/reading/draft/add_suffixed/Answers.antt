use Rattle.std.proofs.Common.{◌∙◌, ap}
use Rattle.ac_query.proofs.Pairs.Drafts.{put_there, put_new, key_cmp}
use Rattle.std.specs.BTreeMap.{insert_entry}
use Rattle.ac_query.specs.Shown.Given.{part_shown}
use Rattle.ac_query.proofs.reading.draft.add_suffixed.Goals as goal

pub returns-in_ok-add-in-Some : goal.returns-in_ok-add-in-Some
returns-in_ok-add-in-Some c =
    put_there c.args.groups.now.entries _ c.args.suffix c.add.new.self (part_shown c.args.part) c.in-Some.group.now
    c.get_mut.ensures.ordered c.in-Some.ensures.value (c.get_mut.follows.holds c.add.new.self).0 c.in_ok-add-in-Some.ensures

pub returns-in_ok-insert-in-None : goal.returns-in_ok-insert-in-None
returns-in_ok-insert-in-None c =
    put_new c.args.groups.now.entries c.insert.new.self.entries c.args.suffix c.in_ok-group-in-None.group (part_shown c.args.part)
    c.in-None.ensures.value
    (c.in_ok-insert-in-None.ensures.entries ∙ ap (λ m. insert_entry key_cmp m.entries c.args.suffix c.in_ok-group-in-None.group) c.get_mut.follows.holds-at-none)
    c.in_ok-group-in-None.ensures
