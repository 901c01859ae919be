-- Whom an edit touches, as it is held.
use Rattle.std.specs.Prelude.{Bool, true, ◌==◌}
use Rattle.ac_base.specs.Sorted.{is_one_of}
use Rattle.ac_change.specs.declared.draft.held.Held.{Held}
use Rattle.ac_change.specs.declared.draft.touched.Touched.{Touched}
use Rattle.ac_change.specs.declared.draft.touched.Touched.TheVariants as touched

-- the provider of this id, all, or those of the trees of these roots
abbrev pub is_marked : Touched → Held → Bool
is_marked (touched.One id) h = h.id == id
is_marked touched.Everyone h = true
is_marked (touched.Trees roots) h = is_one_of roots.keys h.root
