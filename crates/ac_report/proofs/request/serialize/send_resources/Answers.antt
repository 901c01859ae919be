use Rattle.std.proofs.Common.{◌≡◌, ◌∙◌, length, map, rules, sym}
use Rattle.std.proofs.lemmas.List.{length-map}
use Rattle.ac_report.specs.Requests.{resources_tree, sum_member}
use Rattle.ac_report.proofs.Trees.Sending.{begin_members}
use Rattle.ac_report.proofs.request.serialize.send_resources.Goals as goal

pub loop-class-init : goal.loop-class-init
unfolding resources_tree
loop-class-init g c =
    let a = c.args.allocation.now in
    let all : c.into_iter-class-iterator.result ≡ a.classes.keys = search rules in
    let count : c.len.result ≡ length a.classes.keys = search rules in
    rw all (begin_members (map (sum_member a) a.classes.keys) _ _ _ (count ∙ sym (length-map a.classes.keys (sum_member a))) c.in_ok-begin_map.ensures)
