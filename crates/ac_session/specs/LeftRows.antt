-- What is left: a header, and a row for each inventory of all providers, or of one tree's, as `csv` writes them.
use Rattle.std.specs.Prelude.{ℕ, ◌==◌, ◌-◌, Bool, true, List, [], ◌∷◌, codes, map, Option, Some, None, if◌then◌else◌}
use Rattle.std.specs.Fmt.{decimal}
use Rattle.std.specs.List.{flat_map}
use Rattle.csv.specs.Writing.{default_writer, row_text}
use Rattle.ac_base.specs.Quantities.{capacity}
use Rattle.ac_base.specs.Texts.{id_text}
use Rattle.ac_cloud.specs.Cloud.Hosts.{host_of}
use Rattle.ac_cloud.specs.World.{Provider, UsedInventory, id_at, root_of}
use Rattle.ac_report.specs.Names.{shown_name}
use Rattle.ac_run.specs.Answer.{Outcome, on_host, written}

-- what a provider has of a class, by the name of the class
abbrev pub Entry : Type 0
Entry = List ℕ × UsedInventory

abbrev pub left_columns : List (List ℕ)
left_columns =
    codes "resource_provider" ∷ codes "name" ∷ codes "resource_class" ∷ codes "capacity" ∷ codes "used" ∷ codes "left" ∷ []

-- the row of a class of a provider: where more is used than its capacity, nothing is left
abbrev pub left_row : Provider → Entry → List (List ℕ)
left_row p e =
    let room = capacity e.1.inventory in
    id_text p.id ∷ shown_name p.name ∷ e.0 ∷ decimal room ∷ decimal e.1.used ∷ decimal (room - e.1.used) ∷ []

-- a provider is told: it is of the tree of this root, or no tree is asked for
abbrev pub is_told : List Provider → Option ℕ → Provider → Bool
is_told all None p = true
is_told all (Some root) p = root_of all p.id == root

-- the rows of a provider, in the order of its classes
abbrev pub left_rows : List Provider → Option ℕ → Provider → List (List (List ℕ))
left_rows all root p = if is_told all root p then map (left_row p) p.entries else []

-- the header and all rows, in the order of UUIDs
unfoldable pub left_text : List Provider → Option ℕ → List ℕ
left_text all root = flat_map (row_text default_writer) (left_columns ∷ flat_map (left_rows all root) all)

-- what is left of all providers, or of those of a host's tree
unfoldable pub left_answer : List Provider → Option (List ℕ) → Outcome
left_answer all None = written (left_text all None) 0
left_answer all (Some host) = on_host (host_of all host) (λ ix. written (left_text all (Some (root_of all (id_at all ix)))) 0)
