use Rattle.std.proofs.Common.{drop, length, arith}
use Rattle.std.proofs.lemmas.Bool.Decides.{Decides-eqb}
use Rattle.std.proofs.lemmas.Slice.Eq.{starts_is}
use Rattle.ac_search.specs.Shown.Walk.{path_in}
use Rattle.ac_search.proofs.walk.Walk.is_behind.Goals as goal

pub returns-then-self-gt0 : goal.returns-then-self-gt0
returns-then-self-gt0 c = λ starts.
    let path = path_in c.args.self.now in
    let front = c.args.front.now in
    (omega (arith, c.if-self-gt0.true), (drop (length front) path, (starts_is Decides-eqb path front _ (rw c.deref.ensures.value at c.starts_with.ensures.value)).0 starts))
