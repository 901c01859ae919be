use Rattle.std.proofs.Common.{◌-◌, length}
use Rattle.ac_search.specs.Shown.Walk.{place_in, slot_in, StaysWithin}
use Rattle.ac_search.specs.Search.Steps.{Passes}
use Rattle.ac_search.proofs.walk.Walk.pass.Given as goal

abbrev pub invariant-choices : goal.invariant-choices
invariant-choices l = record {
  passes : Passes l.fn.self l.self;
  within : StaysWithin l.fn.self l.self;
}

abbrev pub decreases-choices : goal.decreases-choices
decreases-choices l = length (slot_in l.self) - place_in l.self
