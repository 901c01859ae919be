use Rattle.std.proofs.Common.{map}
use Rattle.ac_base.specs.Names.{class_bytes}
use Rattle.ac_query.specs.Shown.Queries.{asked_of}
use Rattle.ac_rules.proofs.ClassLemmas.{AreClasses}
use Rattle.ac_rules.proofs.classes.all_classes.Given as goal

abbrev pub invariant-loop-s : goal.invariant-loop-s
invariant-loop-s l = AreClasses (asked_of l.query) l.s (map (λ c. class_bytes c.now) l.all.items)
