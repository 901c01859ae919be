-- The world that is asked about: that of the tables, or what changes leave of it; and what is told of a fault of theirs.
use Rattle.std.specs.Prelude.{ℕ, List, [], ◌∷◌, codes, Option, Some, None, Result, Ok, Err}
use Rattle.std.specs.Fmt.{decimal}
use Rattle.std.specs.Option.{option_or}
use Rattle.std.specs.Result.{result_err}
use Rattle.ac_base.specs.Writing.Pieces.{newline, said}
use Rattle.ac_change.specs.Changes.{world_changed}
use Rattle.ac_change.specs.Lines.{changes_fault, changes_said}
use Rattle.ac_change.specs.declared.fault.ChangeKind.{ChangeKind}
use Rattle.ac_change.specs.declared.fault.ChangeKind.TheVariants as kind
use Rattle.ac_cloud.specs.World.{World}
use Rattle.ac_run.specs.Feeds.{Bytes}
use Rattle.ac_run.specs.Wanted.Given.{tables_in}
use Rattle.ac_tables.specs.Tables.{world_stated}

-- the world that is left, where one is
abbrev pub left_of : World → Result World (ℕ × ChangeKind) → World
left_of world (Ok left) = left
left_of world (Err why) = world

-- the first fault of the changes that a text says of a world; without a text there is none
abbrev pub change_fault : Option (List ℕ) → World → Option (ℕ × ChangeKind)
change_fault None world = None
change_fault (Some text) world = option_or (changes_fault text) (result_err (world_changed world (changes_said text)))

-- the world that they leave
abbrev pub changed_by : Option (List ℕ) → World → World
changed_by None world = world
changed_by (Some text) world = left_of world (world_changed world (changes_said text))

-- the world that the bytes of five tables state, as changes leave it
abbrev pub world_in : Option (List ℕ) → Bytes → World
world_in changes b = changed_by changes (world_stated (tables_in b))

-- ---- what is told

unfoldable pub change_name : ChangeKind → List ℕ
change_name kind.BadLine = codes "BadLine"
change_name kind.UnknownHost = codes "UnknownHost"
change_name kind.AmbiguousHost = codes "AmbiguousHost"
change_name kind.ReservedOverTotal = codes "ReservedOverTotal"
change_name kind.TooManyProviders = codes "TooManyProviders"

-- the lines of changes that can't be read, and of too many bytes
unfoldable pub changes_unread_line : List ℕ
changes_unread_line = codes "change: Unreadable\n"

unfoldable pub changes_large_line : List ℕ
changes_large_line = codes "change: TooLarge\n"

-- the line of a fault
unfoldable pub change_line : ℕ → ChangeKind → List ℕ
change_line line why = said (codes "change: line " ∷ decimal line ∷ codes ": " ∷ change_name why ∷ newline ∷ [])

-- what is to be done
unfoldable pub change_remedy : ChangeKind → List ℕ
change_remedy kind.BadLine =
    codes "  A line is disable HOST, enable HOST, remove HOST, add N like HOST, set WHERE CLASS FIELD VALUE, trait WHERE +NAME or aggregate WHERE +UUID, with - where it is to go; WHERE is a provider, * or in:AGGREGATE.\n"
change_remedy kind.UnknownHost = codes "  No provider has this UUID or name.\n"
change_remedy kind.AmbiguousHost = codes "  Several providers have this name; write the UUID of one.\n"
change_remedy kind.ReservedOverTotal = codes "  More would be reserved than there is.\n"
change_remedy kind.TooManyProviders = codes "  There would be more than 65536 providers, or no UUID is left behind the greatest.\n"
