use Rattle.std.proofs.Common.{◌≡◌, ◌∙◌, ℕ, ◌+◌, ◌<◌, Bool, true, false, ◌&&◌, List, ◌∷◌, length, drop, set, sym, arith, slice_index, get_or-set_same}
use Rattle.std.specs.Prelude.{◌==◌}
use Rattle.std.proofs.lemmas.Bool.{cases_eq}
use Rattle.std.proofs.lemmas.Bool.Decides.{nat_tests}
use Rattle.std.proofs.lemmas.Grind.{common_steps}
use Rattle.std.proofs.lemmas.List.{drop_more}
use Rattle.ac_cloud.specs.Cloud.CloudWorld.{providers_of}
use Rattle.ac_cloud.specs.World.{is_available_at}
use Rattle.ac_prune.specs.Marks.{turned}
use Rattle.ac_prune.specs.Trees.Keys.{is_there}
use Rattle.ac_prune.proofs.ledger.marks.hit.Goals as goal
use Rattle.ac_prune.proofs.ledger.marks.hit.Goals.{then-is_full, else-is_full}

-- the counts at the roots from one on, when it has its own
turn_on : (test : ℕ → Bool) (n root r : ℕ) (rest old : List ℕ) → root < length old → (slice_index old root == n) && test root ≡ true
    → turned (is_there rest r && test r) n (n + 1) (slice_index (set old root (slice_index old root + 1)) r) ≡ turned (is_there (root ∷ rest) r && test r) n (n + 1) (slice_index old r)
turn_on test n root r rest old low full = grind (arith, common_steps, nat_tests, get_or-set_same, cases_eq root r)

turn_off : (test : ℕ → Bool) (n root r : ℕ) (rest old : List ℕ) → (slice_index old root == n) && test root ≡ false
    → turned (is_there rest r && test r) n (n + 1) (slice_index old r) ≡ turned (is_there (root ∷ rest) r && test r) n (n + 1) (slice_index old r)
turn_off test n root r rest old none = grind (arith, common_steps, nat_tests, cases_eq root r)

pub loop-root-preserved : goal.loop-root-preserved
loop-root-preserved c = λ r.
    let i = c.loop-root.root-index in
    let roots = c.args.roots.now in
    let old = c.loop-root.hits in
    let test = λ (x : ℕ). is_available_at (providers_of c.args.cloud.now) c.args.ix x in
    let low : slice_index roots i < length old = omega (arith, c.requires.roots i 0 c.loop-root-test.true, c.requires.hits, c.loop-root.auto.hits) in
    let was = rw (drop_more roots i 0 c.loop-root-test.true) at (c.loop-root.invariant r) in
    elim c.if-is_full.branch [
      | then-is_full w ↦ rw w.hits-is (turn_on test c.args.depth (slice_index roots i) r (drop (i + 1) roots) old low (sym c.is_full.ensures ∙ w.if-is_full.true) ∙ was)
      | else-is_full w ↦ rw w.hits-is (turn_off test c.args.depth (slice_index roots i) r (drop (i + 1) roots) old (sym c.is_full.ensures ∙ w.if-is_full.false) ∙ was)
    ]
