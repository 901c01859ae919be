use Rattle.std.proofs.Common.{List, ap}
use Rattle.ac_cloud.specs.World.{Provider}
use Rattle.ac_fill.proofs.placements.Filling.begin.Goals as goal

pub returns-clause-stand : goal.returns-clause-stand
returns-clause-stand c =
    ap (λ (w : List Provider). record { wanted = c.args.wanted; world = w; count = 0 }) c.in_ok-takings.ensures.nothing
