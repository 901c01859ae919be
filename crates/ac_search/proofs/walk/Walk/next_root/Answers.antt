use Rattle.std.proofs.Common.{Option, None, Some, arith}
use Rattle.std.specs.Prelude.{MatchOption}
use Rattle.ac_search.proofs.walk.Walk.next_root.Goals as goal

weaker : {X : Type 0} {P S : Type 0} {Q R : X → Type 0} (o : Option X) → (P → S) → ((x : X) → Q x → R x) → MatchOption o P Q → MatchOption o S R
weaker None f g h = f h
weaker (Some x) f g h = g x h

pub returns-in-Some : goal.returns-in-Some
returns-in-Some c =
    let count = rw c.in-Some.is at c.args.self.now.marked in
    rw c.in-Some.is
    (weaker c.next_marked.result (λ none r from _ low. none r from (omega (arith, count, low))) (λ at none r from less _. none r from less)
    (rw c.deref.ensures.value at c.next_marked.ensures))
