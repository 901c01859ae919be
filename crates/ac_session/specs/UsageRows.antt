-- What is written where the table of usages is asked for.
use Rattle.std.specs.Prelude.{ℕ, List, codes, if◌then◌else◌}
use Rattle.ac_cloud.specs.World.{Provider}
use Rattle.ac_run.specs.Answer.{Outcome, written}
use Rattle.ac_tables.specs.UsageRows.{usages_fit, usages_text}

-- what is written in place of a table where more is used than may stand in one
abbrev pub too_much : List ℕ
too_much = codes "too much in use to be written\n"

unfoldable pub usage_rows : List Provider → Outcome
usage_rows all = if usages_fit all then written (usages_text all) 0 else written too_much 1
