use Rattle.std.proofs.Common.{◌∙◌, ap}
use Rattle.serde_json.proofs.Views.{members_view-insert_entry}
use Rattle.serde_json.specs.View.{members_view}
use Rattle.ac_cli.proofs.RowsJson.{view_text}
use Rattle.ac_cli.proofs.forms.json.add_member.Goals as goal

pub returns : goal.returns
returns c =
    rw (← c.in_ok-name.ensures.ok, ← c.in_ok-text.ensures.ok, ← view_text c.in_ok-text.text)
    (ap members_view c.in_ok-insert.ensures.entries ∙ members_view-insert_entry c.args.members.now.entries c.in_ok-name.name _)
