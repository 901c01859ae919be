-- The definitions computed on small texts.
use Rattle.ac_tables.proofs.Common.{◌≡◌, ℕ, List, [], ◌∷◌, ◌++◌, map, Option, Some, None, refl, codes, records_of, records_or_header, TableFault}
use Rattle.uuid.proofs.OnLiterals.{uuid_on_literals}
use Rattle.csv.proofs.OnLiterals.{csv_on_literals}
use Rattle.ac_base.specs.Texts.{number, count_value, in_millionths, ratio_value}
use Rattle.ac_tables.specs.Tables.Columns.{header_checks}
use Rattle.ac_tables.specs.Tables.ProviderTable.{provider_said, place_of, provider_field_checks, place_checks, provider_record_checks}
use Rattle.ac_tables.specs.Tables.InventoryTable.{numbers_said, inventory_said, number_checks, owner_checks, class_checks, inventory_field_checks, once_checks, inventory_record_checks}
use Rattle.ac_tables.specs.Tables.Names.{columns_needed, name_of}
use Rattle.ac_tables.specs.Tables.UsageTable.{usage_columns}
use Rattle.ac_tables.specs.Tables.TraitTable.{trait_columns}
use Rattle.ac_tables.specs.Tables.AggregateTable.{aggregate_columns}
use Rattle.ac_tables.specs.Tables.{ids_of, tables_fault}
use Rattle.ac_tables.specs.declared.fault.Table.TheVariants as table
use Rattle.ac_tables.specs.declared.fault.TableKind.TheVariants as kind
use Rattle.ac_tables.specs.declared.fault.TableFault.TheVariants as fault

-- the first fault of providers and inventories alone
abbrev fault_of : List ℕ → List ℕ → Option TableFault
fault_of providers inventories = tables_fault (record {
  providers = records_of providers;
  inventories = records_of inventories;
  usages = records_or_header usage_columns None;
  traits = records_or_header trait_columns None;
  aggregates = records_or_header aggregate_columns None;
})

abbrev one_provider : List ℕ
one_provider = codes "uuid,root_provider_uuid,parent_provider_uuid\n00000000000000000000000000000001,00000000000000000000000000000001,"

abbrev inventory_header : List ℕ
inventory_header = codes "resource_provider,resource_class,total,reserved,min_unit,max_unit,step_size,allocation_ratio\n"

-- the texts of providers and of inventories, and the first fault of both
abbrev cases : List (List ℕ × List ℕ × Option TableFault)
cases =
    (one_provider, [], Some (fault.At table.Inventories 1 kind.NoHeader))
    ∷ (codes "uuid,root_provider_uuid", [], Some (fault.At table.Providers 1 kind.MissingColumn))
    ∷ (codes "uuid,uuid,root_provider_uuid,parent_provider_uuid", [], Some (fault.At table.Providers 1 kind.DoubleColumn))
    ∷ (codes "uuid,root_provider_uuid,parent_provider_uuid\n0,1", [], Some (fault.At table.Providers 2 kind.Width))
    ∷ (codes "uuid,root_provider_uuid,parent_provider_uuid\nxyz,00000000000000000000000000000001,", [], Some (fault.At table.Providers 2 kind.BadUuid))
    ∷ (one_provider ++ codes "\n00000000000000000000000000000001,00000000000000000000000000000001,", [], Some (fault.At table.Providers 3 kind.Duplicate))
    ∷ (one_provider ++ codes "00000000000000000000000000000002", [], Some (fault.At table.Providers 2 kind.UnknownParent))
    ∷ (one_provider ++ codes "00000000000000000000000000000001", [], Some (fault.At table.Providers 2 kind.ParentCycle))
    ∷ (one_provider, inventory_header ++ codes "00000000000000000000000000000001,vcpu,8,0,1,8,1,1.0", Some (fault.At table.Inventories 2 kind.BadClass))
    ∷ (one_provider, inventory_header ++ codes "00000000000000000000000000000001,VCPU,8,0,1,8,0,1.0", Some (fault.At table.Inventories 2 kind.ZeroStep))
    ∷ (one_provider, inventory_header ++ codes "00000000000000000000000000000001,VCPU,8,9,1,8,1,1.0", Some (fault.At table.Inventories 2 kind.ReservedOverTotal))
    ∷ (one_provider, inventory_header ++ codes "00000000000000000000000000000002,VCPU,8,0,1,8,1,1.0", Some (fault.At table.Inventories 2 kind.UnknownProvider))
    ∷ (one_provider, inventory_header ++ codes "00000000000000000000000000000001,VCPU,8,0,1,8,1,1.500000", None)
    ∷ []

each_told : map (λ c. fault_of c.0 c.1) cases ≡ map (λ c. c.2) cases
unfolding csv_on_literals uuid_on_literals name_of columns_needed tables_fault header_checks provider_said place_of provider_field_checks place_checks provider_record_checks numbers_said inventory_said number_checks owner_checks class_checks inventory_field_checks once_checks inventory_record_checks ids_of number count_value in_millionths ratio_value
each_told = refl
