use Rattle.std.proofs.Common.{◌≡◌, ◌<◌, ◌-◌, ◌^◌, ℕ, true, subst, arith}
use Rattle.ac_prune.specs.Trees.Keys.{key_of, is_there}
use Rattle.ac_prune.proofs.trees.by_tree.Places.next_in.Goals as goal

pub returns : goal.returns
returns c = record {
  kept = omega (arith, c.min.ensures, c.least_from.ensures.above, c.key-bound.ensures, c.key.ensures, c.requires);
  within = omega (arith, c.min.ensures);
  passed = λ i h m.
      let least = c.least_from.ensures.least (key_of c.args.tree i) (rw c.deref.ensures.value m) (omega (arith, h, c.key-bound.ensures)) in
      omega (arith, least, c.min.ensures, c.key.ensures);
  there = λ h.
      let keys = c.args.self.now.keys.items in
      let is : c.least_from.result ≡ key_of c.args.tree c.min.result = omega (arith, h, c.min.ensures, c.least_from.ensures.above, c.key-bound.ensures, c.key.ensures) in
      let few : c.least_from.result < 2 ^ 64 - 1 = omega (arith, is, h, c.args.self.now.few, c.ranges.tree.fits) in
      subst (λ (k : ℕ). is_there keys k ≡ true) is (rw c.deref.ensures.value at (c.least_from.ensures.there few));
}
