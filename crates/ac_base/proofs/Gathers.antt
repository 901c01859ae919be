-- What is gathered when a room is emptied from its front, or filled at its end.
use Rattle.std.proofs.Common.{◌≡◌, ◌∙◌, ℕ, ◌+◌, ◌-◌, ◌≤◌, List, ◌++◌, take, drop, length, Option, Some, None, sym, ap, ap₂, append_assoc, length-drop, arith}
use Rattle.std.proofs.lemmas.List.{take-append-drop, take-append-le, take_all}
use Rattle.std.specs.List.{copy_within}
use Rattle.std.specs.Io.KnownBytes.{Appends, Keeps}
use Rattle.ac_base.specs.Gathered.{gathered}
use Rattle.std.proofs.lemmas.Grind.{common_steps}

-- the rest of a full room stands at its front
moved : (n size : ℕ) (room : List ℕ) → size ≡ length room → n ≤ size → take (size - n) (copy_within room n size 0) ≡ drop n room
moved n size room full h =
    let left : length (drop n room) ≡ size - n = omega (arith, full, length-drop n room) in
    let all : take (size - n) (drop n room) ≡ drop n room = take_all _ _ (omega (arith, left)) in
    ap (λ l. take (size - n) (l ++ drop (0 + (size - n)) room)) all ∙ take-append-le _ _ _ (omega (arith, left)) ∙ all

-- a first part of a full room was handed on, and the rest moved to its front
pub handed : (a b : Option (List ℕ)) (n used size : ℕ) (room next : List ℕ) → size ≡ length room → used ≡ size → n ≤ size → next ≡ copy_within room n size 0
    → Appends a b (take n room) → Keeps (gathered a used room) (gathered b (used - n) next)
handed None b n used size room next full all some e h = tt
handed (Some u) None n used size room next full all some e h = absurd h
handed (Some u) (Some v) n used size room next full all some e h =
    ap (λ l. v ++ l) (ap₂ (λ k l. take (k - n) l) all e ∙ moved n size room full some) ∙ ap (λ l. l ++ drop n room) h ∙ append_assoc u (take n room) (drop n room)
    ∙ ap (λ l. u ++ l) (take-append-drop n room ∙ sym (take_all used room (omega (arith, full, all))))

-- a first part of a piece was put behind what is in the room
pub filled : (a : Option (List ℕ)) (n used later : ℕ) (room next piece : List ℕ) → take later next ≡ take used room ++ take n piece
    → Appends (gathered a used room) (gathered a later next) (take n piece)
filled a n used later room next piece put = grind (arith, common_steps)
