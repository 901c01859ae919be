use Rattle.std.proofs.Common.{◌≤◌, drop, Bor, ℕ, List}
use Rattle.std.specs.List.{flat_map}
use Rattle.ac_base.proofs.Leaving.{Leaves}
use Rattle.ac_base.proofs.pieces.push_pieces.Given as goal

abbrev pub invariant-loop-piece : goal.invariant-loop-piece
invariant-loop-piece g l =
    record {
      leaves : Leaves (g.W.Sink.taken l.fn.out) (g.W.Sink.taken l.out) (flat_map (λ (piece : Bor (List ℕ)). piece.now) l.pieces) (flat_map (λ (piece : Bor (List ℕ)). piece.now) (drop l.piece-index l.pieces));
      failures : g.W.Sink.failures l.fn.out ≤ g.W.Sink.failures l.out;
    }
