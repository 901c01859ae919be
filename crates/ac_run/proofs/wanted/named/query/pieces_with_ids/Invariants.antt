use Rattle.std.proofs.Common.{◌≡◌, map, string_bytes}
use Rattle.std.specs.List.{slice_split}
use Rattle.std.specs.Str.Iter.{split_pattern}
use Rattle.ac_run.specs.Wanted.Named.{AreNamed, Naming, is_and, numbered_piece, pieces_with_ids, with_numbers}
use Rattle.ac_run.proofs.EachFound.{found_behind}
use Rattle.ac_run.proofs.SplitAt.{pieces_left}
use Rattle.ac_run.proofs.wanted.named.query.pieces_with_ids.Given as goal

abbrev pub invariant-loop-piece : goal.invariant-loop-piece
invariant-loop-piece l =
    (split_pattern l.piece-iterator ≡ 38)
    × ((called : Naming) → AreNamed called l.naming
    → found_behind (numbered_piece called) (map string_bytes l.texts.items) (with_numbers l.number (pieces_left l.piece-iterator)) ≡ pieces_with_ids called 1 (slice_split is_and l.fn.query))
