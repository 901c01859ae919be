use Rattle.std.proofs.Common.{◌≡◌, drop, map}
use Rattle.ac_query.specs.Shown.Groups.{group_entry}
use Rattle.ac_query.specs.Shown.Queries.{asked_of}
use Rattle.ac_rules.specs.Placed.{assigned}
use Rattle.ac_cloud.specs.Cloud.CloudWorld.{providers_of}
use Rattle.ac_report.specs.Parts.{gathered_onto, listed}
use Rattle.ac_report.specs.Requests.{mapping_member}
use Rattle.ac_report.specs.Trees.{gathered, mappings_from}
use Rattle.ac_report.proofs.request.mappings_of.Given as goal

abbrev pub invariant-loop-place : goal.invariant-loop-place
invariant-loop-place l =
    let asked = asked_of l.query in
    let mappings = mappings_from (providers_of l.cloud) (assigned asked l.list) in
    gathered_onto (listed (map mapping_member l.members.entries)) (mappings l.place (map group_entry (drop l.place l.group-items))) ≡ gathered (mappings 0 asked.groups)
