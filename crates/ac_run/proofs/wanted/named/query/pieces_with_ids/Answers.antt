use Rattle.std.proofs.Common.{◌∙◌, ◌∷◌, [], ap, arith, map, string_bytes, sym}
use Rattle.std.proofs.lemmas.Grind.{common_steps}
use Rattle.std.proofs.lemmas.List.{map-append}
use Rattle.std.specs.List.{slice_split}
use Rattle.ac_run.specs.Wanted.Named.{is_and, numbered, numbered_piece, piece_with_ids, pieces_with_ids, with_numbers}
use Rattle.ac_run.proofs.EachFound.{has_found, tells_all}
use Rattle.ac_run.proofs.SplitAt.{next_piece, pieces_left}
use Rattle.ac_run.proofs.wanted.named.query.pieces_with_ids.Goals as goal

pub loop-piece-preserved : goal.loop-piece-preserved
loop-piece-preserved c =
    let it = c.loop-piece.piece-iterator in
    let piece = c.in-Some.piece.now in
    let number = c.loop-piece.number in
    let left = pieces_left c.next.new.self in
    let turn = ap (with_numbers number) (next_piece it c.next.new.self c.in-Some.piece c.loop-piece.invariant.0 c.in-Some.ensures.steps)
    ∙ ap (λ n. (number, piece) ∷ with_numbers n left) (sym c.number_behind-number.ensures) in (
      grind (arith, common_steps),
      λ called are.
          has_found (numbered_piece called) (map string_bytes c.loop-piece.texts.items) (with_numbers number (pieces_left it)) (with_numbers c.number_behind-number.result left)
          (number, piece) (pieces_with_ids called 1 (slice_split is_and c.args.query.now)) turn (c.loop-piece.invariant.1 called are)
          (map string_bytes c.push.new.self.items) (string_bytes c.in-Ok.text) (ap (numbered number) (c.in-Ok.ensures.text called are))
          (ap (map string_bytes) c.in_ok-push-in-Ok.ensures.items ∙ map-append string_bytes c.loop-piece.texts.items (c.in-Ok.text ∷ [])),
    )

pub returns-in-Err-clause-fault : goal.returns-in-Err-clause-fault
returns-in-Err-clause-fault c called are =
    let it = c.loop-piece.piece-iterator in
    let piece = c.in-Some.piece.now in
    let number = c.loop-piece.number in
    let turn = ap (with_numbers number) (next_piece it c.next.new.self c.in-Some.piece c.loop-piece.invariant.0 c.in-Some.ensures.steps) in
    tells_all (numbered_piece called) (map string_bytes c.loop-piece.texts.items) (with_numbers number (pieces_left it)) _ (number, piece)
    (pieces_with_ids called 1 (slice_split is_and c.args.query.now)) c.numbered.result turn (c.loop-piece.invariant.1 called are)
    (c.numbered.ensures (piece_with_ids called piece) (c.in-Err.ensures.fault called are))
