use Rattle.std.proofs.Common.{◌≡◌, ◌++◌, take}
use Rattle.ac_query.specs.Tokens.{ids_text}
use Rattle.ac_rules.specs.Pages.{ids_of}
use Rattle.ac_cloud.specs.Cloud.CloudWorld.{providers_of}
use Rattle.ac_report.proofs.lines.put_ids.Given as goal

abbrev pub invariant-loop-place : goal.invariant-loop-place
invariant-loop-place l = l.text.items ≡ l.fn.text.items ++ ids_text (take l.place (ids_of (providers_of l.cloud) l.list))
