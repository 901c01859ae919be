use Rattle.std.proofs.Common.{◌≡◌, ◌-◌, ◌/◌, ◌^◌, ◌<◌, ℕ, length, ap, arith}
use Rattle.ac_cloud.specs.World.{is_available_at}
use Rattle.ac_prune.specs.Left.Accounts.{providers_in, left_in}
use Rattle.ac_prune.proofs.Paths.AheadLemmas.{all_counted, none_passed, load_found}
use Rattle.ac_prune.proofs.ahead.Ahead.pieces_left.Goals as goal

pub returns-then-ix-self : goal.returns-then-ix-self
returns-then-ix-self c =
    let l = c.args.ledger.now in
    let all = providers_in l in
    all_counted all (λ p. left_in l p c.args.class / c.args.amount) c.args.root c.loop.from c.next_at-ix.result c.loop.pieces (2 ^ 64 - 1) c.next_at-ix.ensures.kept
    (omega (arith, c.next_at-ix.ensures.within, c.requires.whole, c.if-ix-self.true))
    (none_passed all c.deref.result.now c.args.self.now.trees c.args.root c.loop.from c.next_at-ix.result c.requires.root c.next_at-ix.ensures.within (rw c.deref.ensures.value c.requires.trees) c.next_at-ix.ensures.passed)
    c.loop.invariant.counted

pub loop-preserved : goal.loop-preserved
loop-preserved c =
    let l = c.args.ledger.now in
    let all = providers_in l in
    let f = λ (p : ℕ). left_in l p c.args.class / c.args.amount in
    let ix = c.next_at-ix.result in
    let low : ix < length all = omega (arith, c.if-ix-self.false, c.requires.whole) in
    let here : c.left.result / c.args.amount ≡ f ix = ap (λ (n : ℕ). n / c.args.amount) c.left.ensures in
    record {
      within = omega (arith, low, c.requires.whole);
      counted = load_found f (λ p. is_available_at all p c.args.root) c.loop.from ix c.loop.pieces c.saturating_add-pieces.result (2 ^ 64 - 1) c.next_at-ix.ensures.kept
          (none_passed all c.deref.result.now c.args.self.now.trees c.args.root c.loop.from ix c.requires.root c.next_at-ix.ensures.within (rw c.deref.ensures.value c.requires.trees) c.next_at-ix.ensures.passed)
          c.loop.invariant.counted (omega (arith, here, c.saturating_add-pieces.ensures));
    }
