-- The table of traits.
use Rattle.std.specs.Prelude.{Option, ℕ, Bool, List, [], ◌∷◌, ◌++◌}
use Rattle.std.specs.Option.{is_none}
use Rattle.ac_base.specs.Texts.{name_value}
use Rattle.ac_tables.specs.Tables.Checks.{Row, Check, first_failing}
use Rattle.ac_tables.specs.Tables.Columns.{table_checks, said_by, text_in, id_in}
use Rattle.ac_tables.specs.Tables.InventoryTable.{provider_name, owner_checks, known_checks}
use Rattle.ac_tables.specs.Tables.ProviderTable.{name_name}
use Rattle.ac_tables.specs.Tables.Names.{names_needed}
use Rattle.ac_tables.specs.declared.fault.Table.TheVariants as table
use Rattle.ac_tables.specs.declared.fault.TableKind.TheVariants as kind
use Rattle.ac_tables.specs.declared.fault.TableFault.{TableFault}

-- what a record says: a provider has a trait
pub record TraitRecord : Type 0 where
  pub provider : ℕ
  pub name : List ℕ

-- the needed columns, in the order in which they are checked
abbrev pub trait_columns : List (List ℕ)
trait_columns = names_needed table.Traits

-- what a record says
unfoldable pub trait_said : Row → Row → TraitRecord
trait_said header row = record { provider = id_in header provider_name row; name = text_in header name_name row }

-- the check of a trait
unfoldable pub name_checks : Row → Row → List Check
name_checks header row = (is_none (name_value (text_in header name_name row)), kind.BadTrait) ∷ []

-- the checks of a record's fields
unfoldable pub trait_field_checks : Row → Row → List Check
trait_field_checks header row = owner_checks header row ++ name_checks header row

-- the checks of a record, where these are the ids of all providers; a repeated one is none
unfoldable pub trait_record_checks : List ℕ → Row → List TraitRecord → Row → List Check
trait_record_checks ids header before row =
    trait_field_checks header row ++ known_checks ids (id_in header provider_name row)

-- all that the table says, in the order of its records
abbrev pub traits_said : List Row → List TraitRecord
traits_said rows = said_by trait_said rows

-- all checks of the table
abbrev pub trait_checks : List ℕ → List Row → List (Bool × TableFault)
trait_checks ids rows = table_checks table.Traits trait_columns trait_said (trait_record_checks ids) rows

-- the first fault of the table
unfoldable pub traits_fault : List ℕ → List Row → Option TableFault
traits_fault ids rows = first_failing (trait_checks ids rows)
