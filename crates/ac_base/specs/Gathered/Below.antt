-- The sink below one that gathers.
use Rattle.ac_base.specs.declared.gathering.Gathering.{Gathering}

-- as it stands
abbrev pub sink_below : {W : Type 0} → Gathering W → W
sink_below s = s.sink
