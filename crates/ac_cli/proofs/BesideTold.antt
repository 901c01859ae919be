-- What is told of a file beside the tables, and what is read where it isn't there.
use Rattle.std.proofs.Common.{◌≡◌, ◌∙◌, ℕ, ◌++◌, Bool, true, false, List, Option, Some, None, Result, Ok, Err, ◌⊎◌, inl, inr, refl, ap, subst}
use Rattle.std.specs.Global.{Vec}
use Rattle.std.specs.Prelude.{IfOk, not, option_map}
use Rattle.std.specs.Option.{is_some}
use Rattle.ac_remedies.specs.Tables.{unread_remedy}
use Rattle.ac_run.specs.Lines.{memory_line}
use Rattle.ac_run.specs.Refusals.{IsRefusalWith, line_of, line_told, status_of, status_told}
use Rattle.ac_run.specs.Tasks.{Paths}
use Rattle.ac_run.specs.declared.refusal.Refusal.{Refusal}
use Rattle.ac_run.specs.declared.refusal.Refused.{Refused}
use Rattle.ac_cli.specs.Files.{HoldsNames, missing_reason, names_header}
use Rattle.ac_cli.specs.Program.{file_status, unread_said, unread_told}
use Rattle.ac_cli.specs.declared.files.Beside.{Beside}
use Rattle.clap.specs.Words.{Text}

-- a file that can't be read is told with what to do about it, or want of memory for that
pub told_behind : {F X : Type 0} (shown : X → Paths) (Told : List ℕ → Type 0) (of : Beside) (detail : Option X) (none : Bool) (path : Text) (reason : Option Text) (refusal : Refusal)
    (remedy : Result (Vec ℕ) F) (told : Refused) (given : ℕ) → is_some detail ≡ not none → none ≡ false → line_of refusal ≡ unread_said of → status_of refusal ≡ file_status of
    → IfOk remedy (λ text. text.items ≡ unread_remedy path reason) → IsRefusalWith refusal remedy told → Told (line_told told) → given ≡ status_told told
    → (Told (unread_told of (option_map shown detail) path reason) × (given ≡ file_status of)) ⊎ (Told memory_line × (given ≡ 7))
told_behind shown Told of None true path reason refusal remedy told given is asked line status says with said gives = absurd cc
told_behind shown Told of None false path reason refusal remedy told given is asked line status says with said gives = absurd cc
told_behind shown Told of (Some paths) none path reason refusal (Ok text) told given is asked line status says with said gives =
    inl (subst Told (with.0 ∙ ap (λ l. l ++ text.items) line ∙ ap (λ t. unread_said of ++ t) says) said, gives ∙ with.1 ∙ status)
told_behind shown Told of (Some paths) none path reason refusal (Err e) told given is asked line status says with said gives = inr (subst Told with.0 said, gives ∙ with.1)

-- a table of names that isn't there is its header alone
pub absent_holds : {R : Type 0} (opens : List ℕ → R → Type 0) (refuses : List ℕ → List ℕ → Type 0) (remaining : R → Option (List ℕ)) (asked given : Bool) (at : Option (List ℕ))
    (path reason : List ℕ) → given ≡ asked → given ≡ true → at ≡ Some path → refuses path reason → reason ≡ missing_reason → HoldsNames opens refuses remaining asked at (Some names_header)
absent_holds opens refuses remaining false true at path reason same on is refused why = absurd cc
absent_holds opens refuses remaining false false at path reason same on is refused why = absurd cc
absent_holds opens refuses remaining true given None path reason same on is refused why = absurd cc
absent_holds opens refuses remaining true given (Some at) path reason same on is refused why =
    let same : path ≡ at = cc in
    inr (subst (λ p. refuses p missing_reason) same (subst (refuses path) why refused), refl)
