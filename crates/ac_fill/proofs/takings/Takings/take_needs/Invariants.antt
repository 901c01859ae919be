use Rattle.std.proofs.Common.{◌≡◌, ◌<◌, ◌≤◌, ◌+◌, ◌*◌, ℕ, List, map, drop}
use Rattle.std.specs.List.{AllByRecursion as Each}
use Rattle.ac_query.specs.Shown.Groups.{need_entry}
use Rattle.ac_rules.specs.Room.{IsKnown}
use Rattle.ac_rules.specs.Shown.Changes.{asked_of_one}
use Rattle.ac_fill.specs.Shown.{count_in, taken_in, texts_in, IsSame}
use Rattle.ac_fill.proofs.takings.Takings.take_needs.Given as goal

abbrev pub invariant-loop-need : goal.invariant-loop-need
invariant-loop-need l = record {
  same : IsSame l.fn.self l.self;
  known : Each (λ need. IsKnown (texts_in l.fn.self) need.0) (map need_entry (drop l.need-index l.needs));
  grown : (p : ℕ) (class : List ℕ) → p < count_in l.fn.self → taken_in l.fn.self p class ≤ taken_in l.self p class;
  taken : (p : ℕ) (class : List ℕ) → p < count_in l.fn.self
      → taken_in l.self p class + l.times * asked_of_one l.ix (map need_entry (drop l.need-index l.needs)) p class
      ≡ taken_in l.fn.self p class + l.times * asked_of_one l.ix (map need_entry l.needs) p class;
}
