-- What feeds and sinks do to the bytes that are known of them, and how their failures and breaks count.
use Rattle.std.specs.Prelude.{◌≡◌, ◌⊎◌, ℕ, ◌+◌, ◌<◌, ◌≤◌, ◌==◌, ◌&&◌, Bool, true, false, if◌then◌else◌, nat_lt, List, ◌++◌, take, length, Option, Some, None, Result, Ok, Err, ⊤}
use Rattle.std.specs.Io.KnownBytes.{Consumes, Keeps, IsAtEnd, Appends}
use Rattle.std.specs.IoError.{error_kind}
use Rattle.std.specs.declared.io.Error.{Error}
use Rattle.std.specs.declared.io.ErrorKind.TheVariants.{Interrupted}
use Rattle.ac_base.specs.declared.device.Pull.{Pull}
use Rattle.ac_base.specs.declared.device.Pull.TheVariants as pull
use Rattle.ac_base.specs.declared.device.Push.{Push}
use Rattle.ac_base.specs.declared.device.Push.TheVariants as push

-- the greatest count of failures, and of breaks
abbrev pub last_count : ℕ
last_count = 18446744073709551615

-- a count after one more failure: at the last value it stays
abbrev pub one_more : ℕ → ℕ
one_more n = if nat_lt n last_count then n + 1 else n

-- The count rose during a call: it is greater afterwards, or stood at its last value before.
abbrev pub Rises : ℕ → ℕ → Type 0
Rises old new = old < last_count → old < new

-- `pull` gave the next of the known bytes; no byte is the end, and a failure moves nothing
abbrev pub PullGives : Option (List ℕ) → Option (List ℕ) → Pull → List ℕ → Type 0
PullGives old new (pull.Got n) buf = (n ≤ length buf) × Consumes old new (take n buf) × (n ≡ 0 → IsAtEnd new)
PullGives old new pull.Again buf = Keeps old new
PullGives old new pull.Failed buf = Keeps old new

abbrev pub is_pull_failure : Pull → Bool
is_pull_failure (pull.Got n) = false
is_pull_failure pull.Again = true
is_pull_failure pull.Failed = true

abbrev pub failures_after_pull : ℕ → Pull → ℕ
failures_after_pull n answer = if is_pull_failure answer then one_more n else n

-- a feed broke: it failed, and was not just interrupted
abbrev pub is_pull_break : Pull → Bool
is_pull_break (pull.Got n) = false
is_pull_break pull.Again = false
is_pull_break pull.Failed = true

abbrev pub breaks_after_pull : ℕ → Pull → ℕ
breaks_after_pull n answer = if is_pull_break answer then one_more n else n

-- `push` took a first part of the piece, and a failure takes nothing
abbrev pub PushTakes : Option (List ℕ) → Option (List ℕ) → Push → List ℕ → Type 0
PushTakes old new (push.Took n) piece = (n ≤ length piece) × Appends old new (take n piece)
PushTakes old new push.Again piece = Keeps old new
PushTakes old new push.Failed piece = Keeps old new

-- nothing taken of a piece that isn't empty is a failure too
abbrev pub is_push_failure : Push → List ℕ → Bool
is_push_failure (push.Took n) piece = (n == 0) && nat_lt 0 (length piece)
is_push_failure push.Again piece = true
is_push_failure push.Failed piece = true

abbrev pub failures_after_push : ℕ → Push → List ℕ → ℕ
failures_after_push n answer piece = if is_push_failure answer piece then one_more n else n

-- a sink broke: it failed, or took nothing of a piece that isn't empty, and was not just interrupted
abbrev pub is_push_break : Push → List ℕ → Bool
is_push_break (push.Took n) piece = (n == 0) && nat_lt 0 (length piece)
is_push_break push.Again piece = false
is_push_break push.Failed piece = true

abbrev pub breaks_after_push : ℕ → Push → List ℕ → ℕ
breaks_after_push n answer piece = if is_push_break answer piece then one_more n else n

-- Why a device was given up, by its breaks before and after, and its failures: it broke, once; or it did not break, and was interrupted more than a
-- thousand times, unless the count of failures is at its last value.
abbrev pub IsGivenUp : ℕ → ℕ → ℕ → ℕ → Type 0
IsGivenUp breaks breaks_new failures failures_new =
    (breaks_new ≡ one_more breaks) ⊎ ((breaks_new ≡ breaks) × (failures_new < last_count → failures + 1001 ≤ failures_new))

-- what a reader's answer is as a feed's: an error is an interrupted call or a failure, by its kind
abbrev pub IsPullOf : Result ℕ Error → Pull → Type 0
IsPullOf (Ok n) answer = answer ≡ pull.Got n
IsPullOf (Err e) answer = (error_kind e ≡ Interrupted → answer ≡ pull.Again) × ((error_kind e ≡ Interrupted → ⊥) → answer ≡ pull.Failed)

-- the same of a writer's answer and a sink's
abbrev pub IsPushOf : Result ℕ Error → Push → Type 0
IsPushOf (Ok n) answer = answer ≡ push.Took n
IsPushOf (Err e) answer = (error_kind e ≡ Interrupted → answer ≡ push.Again) × ((error_kind e ≡ Interrupted → ⊥) → answer ≡ push.Failed)

-- a first part of some bytes was taken, where the bytes taken are known
abbrev pub TakesPart : Option (List ℕ) → Option (List ℕ) → List ℕ → Type 0
TakesPart None new bytes = ⊤
TakesPart (Some xs) None bytes = ⊥
TakesPart (Some xs) (Some ys) bytes = (part rest : List ℕ) × (bytes ≡ part ++ rest) × (ys ≡ xs ++ part)
