use Rattle.std.proofs.Common.{◌≡◌, ◌++◌, ◌∷◌, drop, option_map}
use Rattle.std.specs.List.{flat_map}
use Rattle.ac_base.specs.Writing.Rows.{HasRows}
use Rattle.ac_cloud.specs.Cloud.CloudWorld.{providers_of}
use Rattle.ac_cloud.specs.World.{id_at}
use Rattle.ac_session.specs.LeftRows.{left_columns, left_rows}
use Rattle.ac_session.proofs.left.left_text.Given as goal

abbrev pub invariant-loop-ix : goal.invariant-loop-ix
invariant-loop-ix l =
    let all = providers_of l.cloud in
    let told = left_rows all (option_map (id_at all) l.root) in
    (written : _) × HasRows l.rows written × (written ++ flat_map told (drop l.ix all) ≡ left_columns ∷ flat_map told all)
