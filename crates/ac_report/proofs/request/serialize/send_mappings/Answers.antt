use Rattle.std.proofs.Common.{◌≡◌, ◌∙◌, length, map, rules, sym}
use Rattle.std.proofs.lemmas.List.{length-map}
use Rattle.ac_report.specs.Requests.{mapping_member, mappings_tree}
use Rattle.ac_report.proofs.Trees.Sending.{begin_members}
use Rattle.ac_report.proofs.request.serialize.send_mappings.Goals as goal

pub loop-name-init : goal.loop-name-init
unfolding mappings_tree
loop-name-init g c =
    let entries = c.args.mappings.now.entries in
    let all : c.into_iter-name-iterator.result ≡ entries = search rules in
    let count : c.len.result ≡ length entries = search rules in
    rw all (begin_members (map mapping_member entries) _ _ _ (count ∙ sym (length-map entries mapping_member)) c.in_ok-begin_map.ensures)
