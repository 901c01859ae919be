use Rattle.std.proofs.Common.{◌≡◌, ℕ, ◌++◌, List, drop, map}
use Rattle.ac_base.specs.Writing.Rows.{HasRows}
use Rattle.ac_cloud.specs.Cloud.CloudWorld.{providers_of}
use Rattle.ac_cloud.specs.Cloud.Entries.{entry_pair}
use Rattle.ac_cloud.specs.World.{provider_at}
use Rattle.ac_session.specs.LeftRows.{left_row}
use Rattle.ac_session.proofs.left.write_provider.Given as goal

abbrev pub invariant-loop-entry : goal.invariant-loop-entry
invariant-loop-entry l =
    let p = provider_at (providers_of l.cloud) l.ix in
    (before : List (List (List ℕ))) → HasRows l.fn.rows before
    → (written : _) × HasRows l.rows written
    × (written ++ map (left_row p) (map entry_pair (drop l.entry-index l.entries)) ≡ before ++ map (left_row p) p.entries)
