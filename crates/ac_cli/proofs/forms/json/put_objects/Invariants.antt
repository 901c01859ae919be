use Rattle.std.proofs.Common.{◌≡◌, ◌++◌, drop, false, map}
use Rattle.std.specs.String.{string_bytes}
use Rattle.serde_json.specs.Written.{items_text}
use Rattle.ac_cli.specs.Forms.{texts_shown}
use Rattle.ac_cli.specs.Forms.Json.{row_objects}
use Rattle.ac_cli.proofs.forms.json.put_objects.Given as goal

-- the text so far, and what is still to come
abbrev pub invariant-loop-row : goal.invariant-loop-row
invariant-loop-row l =
    let objects = row_objects (map string_bytes l.header) in
    l.text.items ++ items_text l.later (objects (texts_shown (drop l.row-index l.rows))) ≡ l.fn.text.items ++ items_text false (objects (texts_shown l.rows))
