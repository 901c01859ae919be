use Rattle.std.proofs.Common.{◌∙◌, ◌-◌, ◌<◌, ℕ, List, length, slice_index, ap, sym, subst, arith}
use Rattle.ac_rules.proofs.EachSlot.AnchorLemmas.{anchors_within}
use Rattle.ac_prune.specs.Left.Accounts.{providers_in, asked_in}
use Rattle.ac_prune.proofs.Paths.AheadLemmas.{bound_dead}
use Rattle.ac_prune.proofs.ahead.Ahead.falls_short.Goals as goal

pub lacks_any-requires-clause-whole : goal.lacks_any-requires-clause-whole
lacks_any-requires-clause-whole c = omega (arith, c.if-self-len.false, c.len.ensures)

pub lacks_any-requires-clause-root : goal.lacks_any-requires-clause-root
lacks_any-requires-clause-root c =
    let all = providers_in c.args.front.now.ledger.now in
    let front = c.args.front.now.path.now in
    let p = slice_index front (length front - 1) in
    let is = c.anchors-roots.ensures in
    subst (λ (rs : List ℕ). slice_index rs 0 < length all) (sym is) (anchors_within all p 0 0 (omega (arith, ap length is, c.if-roots-eq1.true)))

pub returns-then-roots-eq1 : goal.returns-then-roots-eq1
returns-then-roots-eq1 c short =
    let l = c.args.front.now.ledger.now in
    let front = c.args.front.now.path.now in
    let is = c.anchors-roots.ensures in
    bound_dead (providers_in l) (asked_in l) front (length front - 1) (slice_index c.anchors-roots.result.now 0) (omega (arith, c.if-depth-eq0.false))
    (sym (ap length is) ∙ c.if-roots-eq1.true) (ap (λ (rs : List ℕ). slice_index rs 0) is) (c.lacks_any.ensures short)
