use Rattle.std.proofs.Common.{◌≡◌, ◌<◌, ◌≤◌, ℕ, length, slice_index}
use Rattle.ac_base.specs.Names.{class_bytes}
use Rattle.ac_fill.specs.Found.{rarer, root_in}
use Rattle.ac_fill.proofs.found.keep_rarer.Given as goal

abbrev pub invariant-loop-r : goal.invariant-loop-r
invariant-loop-r l = record {
  count : length l.roots.items ≡ length l.fn.roots.items;
  done : (r : ℕ) → r < l.r → root_in l.roots.items r ≡ rarer (root_in l.fn.roots.items r) (class_bytes l.class, slice_index l.sums r);
  same : (r : ℕ) → l.r ≤ r → root_in l.roots.items r ≡ root_in l.fn.roots.items r;
}
