use Rattle.std.proofs.Common.{◌≡◌, ◌+◌, ◌-◌, ◌*◌, ◌<◌, ◌≤◌, length}
use Rattle.ac_base.proofs.Leaving.{Leaves}
use Rattle.ac_base.specs.Devices.{last_count}
use Rattle.ac_base.proofs.device.whole_push.push_all.Given as goal

-- the sink took all but the rest
abbrev pub invariant-loop-rest : goal.invariant-loop-rest
invariant-loop-rest g l =
    record {
      leaves : Leaves (g.W.Sink.taken l.fn.out) (g.W.Sink.taken l.out) l.piece l.rest;
      failures : g.W.Sink.failures l.fn.out ≤ g.W.Sink.failures l.out;
      again : l.again ≤ 1000;
      unbroken : g.W.Sink.breaks l.out ≡ g.W.Sink.breaks l.fn.out;
      interrupted : g.W.Sink.failures l.out < last_count → g.W.Sink.failures l.fn.out + l.again ≤ g.W.Sink.failures l.out;
    }

abbrev pub decreases-loop-rest : goal.decreases-loop-rest
decreases-loop-rest g l = length l.rest * 1001 + (1000 - l.again)
