-- What holds of pages.
use Rattle.std.specs.Prelude.{◌≡◌, ◌≢◌, ℕ, List, [], Some}
use Rattle.ac_cloud.specs.Laws.{AreProviders}
use Rattle.ac_cloud.specs.World.{Provider}
use Rattle.ac_query.specs.Asked.{Asked}
use Rattle.ac_query.specs.Laws.InOrder.{IsInOrder}
use Rattle.ac_find.specs.Lacking.{first_failed}
use Rattle.ac_find.specs.declared.lacks.Stage.{Stage}
use Rattle.ac_rules.specs.Placed.{Placed}
use Rattle.ac_report.specs.Findings.SlotDetails.{detail_of}
use Rattle.ac_report.specs.Pages.{IsAssignment}
use Rattle.ac_report.specs.Texts.{body, pieces, joined}
use Rattle.ac_report.specs.Trees.{request}

-- the body of some lists is its pieces, joined
abbrev pub IsInPieces : List Provider → Asked → List (List ℕ) → Type 0
IsInPieces all asked lists = body all asked lists ≡ joined (pieces all asked lists)

-- two assignments with one request are the same
abbrev pub RequestsDiffer : Type 0
RequestsDiffer = (all : List Provider) (asked : Asked) (t u : List ℕ) → AreProviders all → IsInOrder asked → IsAssignment all asked t → IsAssignment all asked u
    → request all asked t ≡ request all asked u → t ≡ u

-- of the first test of its slot that a provider fails, of what it does is told
abbrev pub StageIsTold : Type 0
StageIsTold = (all : List Provider) (x : Placed) (stage : Stage) → first_failed all x ≡ Some stage → detail_of all x (Some stage) ≢ []
