-- Providers whose ids are different and whose parents are there, and the first fault of each pass over their trees.
use Rattle.std.specs.Prelude.{◌≡◌, ◌<◌, ℕ, List, length, Option, Some}
use Rattle.ac_tables.specs.Tables.Checks.{first_failing, pass}
use Rattle.ac_tables.specs.Tables.ProviderTable.{ProviderRecord, place_of, record_at, has_unknown_parent, has_endless_chain, has_wrong_root, tree_checks}
use Rattle.ac_tables.specs.declared.fault.Table.TheVariants as table
use Rattle.ac_tables.specs.declared.fault.TableKind.TheVariants as kind
use Rattle.ac_tables.specs.declared.fault.TableFault.{TableFault}

-- each provider stands where its id is found
abbrev pub AreDistinct : List ProviderRecord → Type 0
AreDistinct all = (i : ℕ) → i < length all → place_of all (record_at all i).id ≡ Some i

-- the ids are different and the parents are there
pub record AreTrees (all : List ProviderRecord) : Type 0 where
  pub distinct : AreDistinct all
  pub known : (i q : ℕ) → i < length all → (record_at all i).parent ≡ Some q → (j : ℕ) × (place_of all q ≡ Some j)

-- the first fault of each of the three passes over all providers
unfoldable pub unknown_fault : List ProviderRecord → Option TableFault
unknown_fault all = first_failing (pass table.Providers kind.UnknownParent (has_unknown_parent all) 2 all)

unfoldable pub endless_fault : List ProviderRecord → Option TableFault
endless_fault all = first_failing (pass table.Providers kind.ParentCycle (has_endless_chain all) 2 all)

unfoldable pub root_fault : List ProviderRecord → Option TableFault
root_fault all = first_failing (pass table.Providers kind.WrongRoot (has_wrong_root all) 2 all)

-- the first fault of the trees
unfoldable pub trees_fault : List ProviderRecord → Option TableFault
trees_fault all = first_failing (tree_checks all)
