use Rattle.std.proofs.Common.{◌≡◌, ◌++◌, map}
use Rattle.std.specs.Prelude.{drop}
use Rattle.ac_base.specs.Names.{class_bytes}
use Rattle.ac_fill.specs.Found.{short_entry, shorts_at}
use Rattle.ac_fill.proofs.bound.shorts_at.Given as goal

abbrev pub invariant-loop-class : goal.invariant-loop-class
invariant-loop-class l =
    map short_entry l.shorts.items ++ shorts_at l.roots l.fits (map (λ c. class_bytes c.now) (drop l.class-index l.class-items)) ≡ shorts_at l.roots l.fits (map (λ c. class_bytes c.now) l.class-items)
