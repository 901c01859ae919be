use Rattle.std.proofs.Common.{◌≡◌, ◌&&◌, ◌==◌, ℕ, take}
use Rattle.std.specs.List.{list_any}
use Rattle.ac_base.specs.Sorted.{is_one_of}
use Rattle.ac_cloud.specs.World.{is_member}
use Rattle.ac_change.specs.Held.{provider_held}
use Rattle.ac_change.proofs.draft.hosts.find_roots.Given as goal

abbrev pub invariant-loop-held : goal.invariant-loop-held
invariant-loop-held l =
    (r : ℕ) → is_one_of l.roots.keys r ≡ list_any (λ h. is_member (provider_held h) l.aggregate && (h.root == r)) (take l.held-index l.list)
