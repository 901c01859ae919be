-- What is written and what is read, by the answer of a writer.
use Rattle.std.specs.Prelude.{◌≡◌, ◌+◌, ◌-◌, ◌≤◌, ℕ, List, Option, Result, Err, OnOk, OnErr, IfOk, length, min}
use Rattle.std.specs.List.{flat_map}
use Rattle.std.specs.Option.{option_map}
use Rattle.std.specs.Io.KnownBytes.{Appends}
use Rattle.ac_base.specs.Devices.{Rises, TakesPart}
use Rattle.ac_rules.specs.Pages.{cut}
use Rattle.ac_report.specs.declared.fault.PageFault.{PageFault}
use Rattle.ac_report.specs.declared.fault.PageFault.TheVariants as fault
use Rattle.ac_search.specs.declared.fault.SearchFault.{SearchFault}
use Rattle.ac_search.specs.declared.fault.SearchFault.TheVariants as search
use Rattle.ac_report.specs.Pages.{LosesSome, TakesWhole, behind}

-- A text is written by the pieces of some things: the whole text; after an error a first part of it; where memory was wanting, whole pieces alone, and so where the
-- search stopped, which it may. A failed write raised the sink's count of failures, which never falls.
pub record Writes {S X : Type 0} (taken : S → Option (List ℕ)) (fails : S → ℕ) (may : Type 0) (old new : S) (result : Result X PageFault) (text : List ℕ)
    (piece : List ℕ → List ℕ) (xs : List (List ℕ)) : Type 0 where
  pub ok : OnOk result (Appends (taken old) (taken new) text)
  pub part : OnErr result (TakesPart (taken old) (taken new) text)
  pub failed : result ≡ Err fault.WriteFailed → Rises (fails old) (fails new)
  pub whole : result ≡ Err fault.NoMemory → TakesWhole piece xs (taken old) (taken new)
  pub stopped : result ≡ Err fault.TooManyTries → may × TakesWhole piece xs (taken old) (taken new)
  pub failures : fails old ≤ fails new

-- the text is just these pieces, joined
abbrev pub WritesEach : {S X : Type 0} → (S → Option (List ℕ)) → (S → ℕ) → Type 0 → S → S → Result X PageFault → (List ℕ → List ℕ) → List (List ℕ) → Type 0
WritesEach taken fails may old new result piece xs = Writes taken fails may old new result (flat_map piece xs) piece xs

-- the fault of a page whose search has no answer
abbrev pub fault_of : SearchFault → PageFault
fault_of search.NoMemory = fault.NoMemory
fault_of search.TooManyTries = fault.TooManyTries

-- Lists are read from a source: as many as the limit says, whose number is told, counted on from another; before an error no more than those.
pub record Reads (limit : Option ℕ) (from : ℕ) (result : Result ℕ PageFault) (old new : List (List ℕ)) : Type 0 where
  pub left : OnOk result (new ≡ behind limit old)
  pub count : IfOk result (λ n. n ≡ min (length (cut limit old) + from) 4294967295)
  pub gone : OnErr result (LosesSome limit old new)

-- a limit with one list less to come
abbrev pub one_less : Option ℕ → Option ℕ
one_less limit = option_map (λ n. n - 1) limit
