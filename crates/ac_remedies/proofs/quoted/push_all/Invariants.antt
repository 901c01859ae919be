use Rattle.std.proofs.Common.{◌≡◌, ◌++◌, take, Bor, ℕ, List}
use Rattle.std.specs.List.{flat_map}
use Rattle.ac_remedies.proofs.quoted.push_all.Given as goal

abbrev pub invariant-loop-piece : goal.invariant-loop-piece
invariant-loop-piece l = l.text.items ≡ l.fn.text.items ++ flat_map (λ (piece : Bor (List ℕ)). piece.now) (take l.piece-index l.pieces)
