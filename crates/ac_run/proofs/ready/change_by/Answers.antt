use Rattle.std.proofs.Common.{◌≡◌, ◌∙◌, ℕ, List, Option, None, ap, map, refl, subst}
use Rattle.std.specs.Option.{option_or}
use Rattle.std.specs.Result.{result_err}
use Rattle.ac_change.specs.Changes.{Change, world_changed}
use Rattle.ac_change.specs.Faults.{TellsLine}
use Rattle.ac_change.specs.Lines.{changes_fault}
use Rattle.ac_change.specs.Shown.{line_shown}
use Rattle.ac_change.specs.declared.fault.ChangeFault.{ChangeFault}
use Rattle.ac_change.specs.declared.fault.ChangeFault.TheVariants as fault
use Rattle.ac_change.specs.declared.fault.ChangeKind.{ChangeKind}
use Rattle.ac_cloud.specs.Cloud.CloudWorld.{world_of}
use Rattle.ac_run.proofs.ready.change_by.Goals as goal

first_told : (first other : Option (ℕ × ChangeKind)) (said : ChangeFault) → TellsLine first said → TellsLine (option_or first other) said
first_told first other (fault.At line why) h = rw h refl
first_told first other fault.NoMemory h = tt

then_told : (first other : Option (ℕ × ChangeKind)) (said : ChangeFault) → first ≡ None → TellsLine other said → TellsLine (option_or first other) said
then_told first other said none h = rw none h

-- the text can't be read
pub returns-in-Err-clause-fault : goal.returns-in-Err-clause-fault
returns-in-Err-clause-fault c = c.changes_refusal.ensures _ (first_told (changes_fault c.args.text.now) _ c.in-Err.fault c.in-Err.ensures.fault)

-- what it says can't be done
pub returns-clause-fault : goal.returns-clause-fault
returns-clause-fault c =
    c.changes_refusal-in-Err-change.ensures _ (then_told (changes_fault c.args.text.now) _ c.in-Err-change.fault c.in-Ok.ensures.ok
    (subst (λ (said : List (ℕ × Change)). TellsLine (result_err (world_changed (world_of c.args.cloud.now) said)) c.in-Err-change.fault)
    (ap (map line_shown) c.deref.ensures.value ∙ c.in-Ok.ensures.changes) c.in-Err-change.ensures.fault))
