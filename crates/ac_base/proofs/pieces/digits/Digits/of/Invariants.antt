use Rattle.std.proofs.Common.{◌≡◌, ◌++◌, ◌^◌, ◌<◌, ◌≤◌, drop, length}
use Rattle.std.specs.Fmt.{decimal}
use Rattle.ac_base.proofs.Decimals.Steps.{front}
use Rattle.ac_base.proofs.pieces.digits.Digits.of.Given as goal

-- the digits of what is left, before those in the room
abbrev pub invariant-loop-rest : goal.invariant-loop-rest
invariant-loop-rest l =
    record {
      digits : decimal l.number ≡ front l.rest ++ drop l.start l.room;
      room : l.rest < 10 ^ l.start;
      within : l.start ≤ 9;
      size : length l.room ≡ 10;
    }

abbrev pub decreases-loop-rest : goal.decreases-loop-rest
decreases-loop-rest l = l.rest
