use Rattle.std.proofs.Common.{Bor, ℕ, List, arith}
use Rattle.ac_base.proofs.PiecesWritten.{next_piece}
use Rattle.ac_base.proofs.Pushed.{pushed_within}
use Rattle.ac_base.proofs.pieces.push_pieces.Goals as goal

pub returns-in_err-push_all : goal.returns-in_err-push_all
returns-in_err-push_all g c =
    let pushed = c.in_err-push_all.ensures.pushes in
    pushed_within g.W.Sink.taken g.W.Sink.failures c.args.out.now c.loop-piece.out _ _ _ _ _ _
    (next_piece (λ (piece : Bor (List ℕ)). piece.now) c.args.pieces.now c.loop-piece.piece-index _ _ _ _ (omega arith) c.loop-piece.invariant.leaves)
    c.loop-piece.invariant.failures pushed.failures c.from_residual.ensures.1 pushed.part pushed.rises
