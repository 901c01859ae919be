use Rattle.std.proofs.Common.{◌≡◌, ◌<◌, ◌≤◌, ◌+◌, ◌*◌, ℕ, List, drop, length}
use Rattle.ac_query.specs.Asked.{slots_of}
use Rattle.ac_rules.specs.Placed.{assigned, placed}
use Rattle.ac_rules.specs.Together.{sum_on}
use Rattle.ac_fill.specs.Shown.{asked_in, count_in, taken_in, IsSame}
use Rattle.ac_fill.proofs.takings.Takings.take_times.Given as goal

abbrev pub invariant-loop-s : goal.invariant-loop-s
invariant-loop-s l =
    let asked = asked_in l.fn.self in
    record {
      within : l.s ≤ length l.list;
      same : IsSame l.fn.self l.self;
      grown : (p : ℕ) (class : List ℕ) → p < count_in l.fn.self → taken_in l.fn.self p class ≤ taken_in l.self p class;
      taken : (p : ℕ) (class : List ℕ) → p < count_in l.fn.self
          → taken_in l.self p class + l.times * sum_on (placed (drop l.s (slots_of asked)) (drop l.s l.list)) p class ≡ taken_in l.fn.self p class + l.times * sum_on (assigned asked l.list) p class;
    }
