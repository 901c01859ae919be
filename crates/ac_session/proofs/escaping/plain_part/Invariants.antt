use Rattle.std.proofs.Common.{◌≡◌, ◌≤◌, ◌+◌, ◌-◌, drop, length}
use Rattle.ac_session.specs.Escapes.{plain_length}
use Rattle.ac_session.proofs.escaping.plain_part.Given as goal

-- what was looked at is written as it is
abbrev pub invariant-loop-ahead : goal.invariant-loop-ahead
invariant-loop-ahead l = record {
  inside : l.place ≤ length l.text;
  plain : plain_length l.text ≡ l.place + plain_length (drop l.place l.text);
}

abbrev pub decreases-loop-ahead : goal.decreases-loop-ahead
decreases-loop-ahead l = length l.text - l.place
