-- The table of providers.
use Rattle.std.specs.Prelude.{◌&&◌, ℕ, Bool, ◌||◌, ◌==◌, not, nat_le, if◌then◌else◌, List, [], ◌∷◌, ◌++◌, codes, length, get_or, Option, None, false}
use Rattle.std.specs.Option.{unwrap_or, is_none, is_some, option_and_then, option_map}
use Rattle.std.specs.List.{position_from}
use Rattle.std.specs.Str.{bytes_eq}
use Rattle.ac_base.specs.Texts.{id_value}
use Rattle.ac_tables.specs.Tables.Checks.{Row, Check, first_failing, pass}
use Rattle.ac_tables.specs.Tables.Columns.{table_checks, said_by, text_in, text_or_none, id_in, bad_width, bad_id}
use Rattle.ac_cloud.specs.Trees.{top, is_endless}
use Rattle.ac_tables.specs.Tables.Names.{name_of, names_needed}
use Rattle.ac_tables.specs.declared.columns.Column.TheVariants as column
use Rattle.ac_tables.specs.declared.fault.Table.TheVariants as table
use Rattle.ac_tables.specs.declared.fault.TableKind.TheVariants as kind
use Rattle.ac_tables.specs.declared.fault.TableFault.{TableFault}

-- what a record says
pub record ProviderRecord : Type 0 where
  pub id : ℕ
  pub root : ℕ
  pub parent : Option ℕ
  pub name : List ℕ

abbrev pub uuid_name : List ℕ
uuid_name = name_of column.Uuid

abbrev pub root_name : List ℕ
root_name = name_of column.Root

abbrev pub parent_name : List ℕ
parent_name = name_of column.Parent

-- a column that may be left out
abbrev pub name_name : List ℕ
name_name = name_of column.Name

-- the needed columns, in the order in which they are checked
abbrev pub provider_columns : List (List ℕ)
provider_columns = names_needed table.Providers

-- a field that says that there is no parent
abbrev pub says_none : List ℕ → Bool
says_none text = bytes_eq text [] || bytes_eq text (codes "None")

-- the parent that a field names, where it names one
abbrev pub parent_value : List ℕ → Option ℕ
parent_value text = if says_none text then None else id_value text

-- a parent's field that is no UUID
abbrev pub is_bad_parent : List ℕ → Bool
is_bad_parent text = if says_none text then false else is_none (id_value text)

-- what a record says; 0 stands for what is no UUID, and a check tells that
unfoldable pub provider_said : Row → Row → ProviderRecord
provider_said header row = record {
  id = id_in header uuid_name row;
  root = id_in header root_name row;
  parent = parent_value (text_in header parent_name row);
  name = text_or_none header name_name row;
}

abbrev pub is_at : ℕ → ProviderRecord → Bool
is_at id p = p.id == id

-- where the first provider of this id stands
unfoldable pub place_of : List ProviderRecord → ℕ → Option ℕ
place_of all id = position_from (is_at id) 0 all

-- a provider of this id is there
abbrev pub is_known : List ProviderRecord → ℕ → Bool
is_known all id = is_some (place_of all id)

-- the most providers
abbrev pub most_providers : ℕ
most_providers = 65536

-- the checks of a record's fields
unfoldable pub provider_field_checks : Row → Row → List Check
provider_field_checks header row =
    bad_width header row
    ∷ bad_id header uuid_name row
    ∷ bad_id header root_name row
    ∷ (is_bad_parent (text_in header parent_name row), kind.BadUuid)
    ∷ []

-- the checks of a provider's id, beside the providers before it
unfoldable pub place_checks : List ProviderRecord → ℕ → List Check
place_checks before id = (is_known before id, kind.Duplicate) ∷ (nat_le most_providers (length before), kind.TooManyProviders) ∷ []

-- the checks of a record, beside the providers before it
unfoldable pub provider_record_checks : Row → List ProviderRecord → Row → List Check
provider_record_checks header before row = provider_field_checks header row ++ place_checks before (id_in header uuid_name row)

-- a provider for the places past the end
abbrev pub no_record : ProviderRecord
no_record = record { id = 0; root = 0; parent = None; name = [] }

-- the provider at a place
abbrev pub record_at : List ProviderRecord → ℕ → ProviderRecord
record_at all i = get_or all i no_record

-- the parent of a provider, where it has one
abbrev pub said_parent : List ProviderRecord → ℕ → Option ℕ
said_parent all id = option_and_then (λ i. (record_at all i).parent) (place_of all id)

-- the name of a provider; empty where it has none
abbrev pub said_name : List ProviderRecord → ℕ → List ℕ
said_name all id = unwrap_or (option_map (λ i. (record_at all i).name) (place_of all id)) []

-- a parent that isn't there
abbrev pub has_unknown_parent : List ProviderRecord → ProviderRecord → Bool
has_unknown_parent all p = is_some p.parent && not (is_known all (unwrap_or p.parent 0))

-- a chain of parents that doesn't end
abbrev pub has_endless_chain : List ProviderRecord → ProviderRecord → Bool
has_endless_chain all p = is_endless (said_parent all) (length all) p.id

-- a named root that is another than the top of the tree
abbrev pub has_wrong_root : List ProviderRecord → ProviderRecord → Bool
has_wrong_root all p = not (top (said_parent all) (length all) p.id == p.root)

-- the checks after all records, one pass over them each
abbrev pub tree_checks : List ProviderRecord → List (Bool × TableFault)
tree_checks all =
    pass table.Providers kind.UnknownParent (has_unknown_parent all) 2 all
    ++ pass table.Providers kind.ParentCycle (has_endless_chain all) 2 all
    ++ pass table.Providers kind.WrongRoot (has_wrong_root all) 2 all

-- all that the table says, in the order of its records
abbrev pub providers_said : List Row → List ProviderRecord
providers_said rows = said_by provider_said rows

-- all checks of the table
abbrev pub provider_checks : List Row → List (Bool × TableFault)
provider_checks rows = table_checks table.Providers provider_columns provider_said provider_record_checks rows ++ tree_checks (providers_said rows)

-- the first fault of the header and of the records
unfoldable pub provider_records_fault : List Row → Option TableFault
provider_records_fault rows = first_failing (table_checks table.Providers provider_columns provider_said provider_record_checks rows)

-- the first fault of the whole table
unfoldable pub providers_fault : List Row → Option TableFault
providers_fault rows = first_failing (provider_checks rows)
