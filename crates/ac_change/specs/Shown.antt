-- What a change of the program says.
use Rattle.std.specs.Prelude.{ℕ}
use Rattle.ac_base.specs.Names.{class_bytes, trait_bytes}
use Rattle.ac_change.specs.Changes.{Change, Edit, Scope, Setting, add, edit, everyone, gains, host, joins, leaves, loses, max_unit, members, min_unit, ratio, remove, reserved, root, sets, step_size, total}
use Rattle.ac_change.specs.declared.changes.Change as rust_change
use Rattle.ac_change.specs.declared.changes.Edit as rust_edit
use Rattle.ac_change.specs.declared.changes.Line.{Line}
use Rattle.ac_change.specs.declared.changes.Scope as rust_scope
use Rattle.ac_change.specs.declared.changes.Setting as rust_setting
use Rattle.ac_change.specs.declared.changes.Change.TheVariants as change
use Rattle.ac_change.specs.declared.changes.Edit.TheVariants as edits
use Rattle.ac_change.specs.declared.changes.Scope.TheVariants as scope
use Rattle.ac_change.specs.declared.changes.Setting.TheVariants as setting

abbrev pub scope_shown : rust_scope.Scope → Scope
scope_shown (scope.Host text) = host text.items
scope_shown (scope.Root text) = root text.items
scope_shown scope.Everyone = everyone
scope_shown (scope.Members aggregate) = members aggregate

abbrev pub setting_shown : rust_setting.Setting → Setting
setting_shown (setting.Total n) = total n
setting_shown (setting.Reserved n) = reserved n
setting_shown (setting.MinUnit n) = min_unit n
setting_shown (setting.MaxUnit n) = max_unit n
setting_shown (setting.StepSize n) = step_size n
setting_shown (setting.Ratio n) = ratio n

abbrev pub edit_shown : rust_edit.Edit → Edit
edit_shown (edits.Gains name) = gains (trait_bytes name)
edit_shown (edits.Loses name) = loses (trait_bytes name)
edit_shown (edits.Joins aggregate) = joins aggregate
edit_shown (edits.Leaves aggregate) = leaves aggregate
edit_shown (edits.Sets class to) = sets (class_bytes class) (setting_shown to)

abbrev pub change_shown : rust_change.Change → Change
change_shown (change.Edit of what) = edit (scope_shown of) (edit_shown what)
change_shown (change.Remove text) = remove text.items
change_shown (change.Add count text) = add count text.items

-- a change with its line
abbrev pub line_shown : Line → ℕ × Change
line_shown l = (l.number, change_shown l.change)
