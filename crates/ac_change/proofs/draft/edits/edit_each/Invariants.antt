use Rattle.std.proofs.Common.{◌≡◌, ◌++◌, ◌&&◌, false, map}
use Rattle.std.specs.List.{list_any}
use Rattle.std.specs.Vec.Iter.{into_iter_items}
use Rattle.ac_change.specs.Changes.{spoils}
use Rattle.ac_change.specs.Drafts.{edited_held}
use Rattle.ac_change.specs.Held.{provider_held}
use Rattle.ac_change.specs.Marked.{is_marked}
use Rattle.ac_change.specs.Shown.{edit_shown}
use Rattle.ac_change.proofs.draft.edits.edit_each.Given as goal

abbrev pub invariant-loop-held : goal.invariant-loop-held
invariant-loop-held l =
    record {
      none : list_any (λ h. is_marked l.touched h && spoils (edit_shown l.edit) (provider_held h)) (into_iter_items l.held-iterator) ≡ false;
      providers : map provider_held l.new.items ++ map (edited_held l.touched (edit_shown l.edit)) (into_iter_items l.held-iterator)
          ≡ map (edited_held l.touched (edit_shown l.edit)) l.fn.list.items;
      roots : map (λ h. h.root) l.new.items ++ map (λ h. h.root) (into_iter_items l.held-iterator) ≡ map (λ h. h.root) l.fn.list.items;
    }
