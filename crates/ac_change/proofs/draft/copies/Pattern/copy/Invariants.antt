use Rattle.std.proofs.Common.{◌≡◌, map, take}
use Rattle.ac_change.specs.Changes.{copied, id_copied}
use Rattle.ac_change.specs.Drafts.{roots_held}
use Rattle.ac_change.specs.Held.{provider_held}
use Rattle.ac_change.proofs.draft.copies.Pattern.copy.Given as goal

abbrev pub invariant-loop-held : goal.invariant-loop-held
invariant-loop-held l =
    record {
      providers : map provider_held l.new.items ≡ map (λ h. copied l.self.ids.ids.items l.first l.turn (provider_held h)) (take l.held-index l.self.members.items);
      roots : roots_held l.new.items ≡ map (λ h. id_copied l.self.ids.ids.items l.first l.self.root) (take l.held-index l.self.members.items);
    }
