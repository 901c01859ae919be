use Rattle.std.proofs.Common.{◌&&◌, rules}
use Rattle.std.proofs.lemmas.Iterator.{YieldsList-from_slice}
use Rattle.std.proofs.lemmas.Iterator.Search.{any_from_yields_List}
use Rattle.ac_change.specs.Changes.{spoils}
use Rattle.ac_change.specs.Held.{provider_held}
use Rattle.ac_change.specs.Marked.{is_marked}
use Rattle.ac_change.specs.Shown.{edit_shown}
use Rattle.ac_change.proofs.draft.edits.spoils_one.Goals as goal

pub returns : goal.returns
returns c =
    any_from_yields_List (λ h. is_marked c.args.touched.now h && spoils (edit_shown c.args.edit.now) (provider_held h)) _ _ c.any.result c.any.ensures.ran
    (YieldsList-from_slice _ c.iter.ensures.rest) (λ x b q k. search rules)
