use Rattle.std.proofs.Common.{◌≡◌, ◌+◌, ◌≤◌, map, drop, length}
use Rattle.ac_base.specs.Names.{class_bytes}
use Rattle.ac_rules.specs.Room.{class_number}
use Rattle.ac_rules.proofs.classes.number_of.Given as goal

abbrev pub invariant-loop-k : goal.invariant-loop-k
invariant-loop-k l = record {
  within : l.k ≤ length l.classes;
  rest : l.k + class_number (map (λ c. class_bytes c.now) (drop l.k l.classes)) (class_bytes l.class) ≡ class_number (map (λ c. class_bytes c.now) l.classes) (class_bytes l.class);
}
