use Rattle.std.proofs.Common.{◌≡◌, ◌-◌, length, map}
use Rattle.std.specs.List.{range_with_len}
use Rattle.std.specs.String.{string_bytes}
use Rattle.serde_json.specs.Data.{no_members}
use Rattle.serde_json.specs.View.{members_view}
use Rattle.ac_cli.specs.Forms.Json.{with_members}
use Rattle.ac_cli.proofs.forms.json.members_of.Given as goal

-- the members so far, and those still to come
abbrev pub invariant-loop-i : goal.invariant-loop-i
invariant-loop-i l =
    let named = with_members (map string_bytes l.header) (map string_bytes l.row) in
    named (range_with_len l.i (length l.header - l.i)) (members_view l.members.entries) ≡ named (range_with_len 0 (length l.header)) no_members
