use Rattle.std.proofs.Common.{arith, refl}
use Rattle.std.proofs.Math.ListN.{length-set}
use Rattle.ac_base.proofs.Decimals.Steps.{last_digit, digit_more, room_less, started}
use Rattle.ac_base.proofs.pieces.digits.Digits.of.Goals as goal

pub loop-rest-init : goal.loop-rest-init
loop-rest-init c = record {
  digits = last_digit c.args.number (omega arith);
  room = omega arith;
  within = omega arith;
  size = refl;
}

pub loop-rest-preserved : goal.loop-rest-preserved
loop-rest-preserved c =
    let at = started c.loop-rest.rest c.loop-rest.start c.loop-rest.invariant.room (omega arith) in
    record {
      digits = digit_more c.args.number c.loop-rest.rest c.loop-rest.start c.loop-rest.room c.loop-rest.invariant.digits (omega arith) (omega arith) at
          (omega (arith, c.loop-rest.invariant.size));
      room = room_less c.loop-rest.rest c.loop-rest.start c.loop-rest.invariant.room at;
      within = omega arith;
      size = simp length-set c.loop-rest.invariant.size;
    }
