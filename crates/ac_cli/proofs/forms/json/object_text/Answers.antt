use Rattle.std.proofs.Common.{◌≡◌, ◌∙◌, ap, false, length, map, refl, string_bytes}
use Rattle.std.specs.List.{range_with_len}
use Rattle.serde_json.proofs.Views.{view-Object}
use Rattle.serde_json.specs.Data.{no_members}
use Rattle.serde_json.specs.View.{view}
use Rattle.serde_json.specs.Written.{compact_text, has_float}
use Rattle.serde_json.specs.declared.value.Value.{Object}
use Rattle.ac_cli.specs.Forms.Json.{row_object}
use Rattle.ac_cli.proofs.RowsJson.{plain_members}
use Rattle.ac_cli.proofs.forms.json.object_text.Goals as goal

pub returns : goal.returns
returns c =
    let header = map string_bytes c.args.header.now in
    let row = map string_bytes c.args.row.now in
    let seen : view (Object c.in_ok-members_of.field-0) ≡ row_object header row = view-Object c.in_ok-members_of.field-0 ∙ c.in_ok-members_of.ensures in
    let plain : has_float (view (Object c.in_ok-members_of.field-0)) ≡ false = ap has_float seen ∙ plain_members header row (range_with_len 0 (length header)) no_members refl in
    c.in_ok-to_vec.ensures.text plain ∙ ap compact_text seen
