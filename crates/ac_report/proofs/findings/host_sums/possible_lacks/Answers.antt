use Rattle.std.proofs.Common.{◌∙◌, ◌+◌, ◌++◌, List, [], ◌∷◌, ap₂}
use Rattle.ac_find.specs.declared.lacks.Lack.{Lack}
use Rattle.ac_find.specs.declared.lacks.Lack.TheVariants.{RootTraits, RequiredTraits, Together}
use Rattle.ac_report.specs.Findings.HostSums.{lacks_of_slot}
use Rattle.ac_report.proofs.FoundTexts.RowsWritten.{place_more}
use Rattle.ac_report.proofs.findings.host_sums.possible_lacks.Goals as goal

pub loop-s-preserved : goal.loop-s-preserved
loop-s-preserved c = (c.in_ok-extend_from_slice-2.ensures.items ∙ ap₂ (λ (xs ys : List Lack). xs ++ ys) c.loop-s.invariant c.lacks_of_slot.ensures) ∙ place_more {X = Lack} (λ s. lacks_of_slot (s + 1)) (RootTraits ∷ RequiredTraits ∷ Together ∷ []) c.loop-s.s
