-- The rows of a table, as its reader gathers them.
pub mod TableRows
pub mod RecordLaws
pub mod InventoryRows
pub mod ProviderLaws
pub mod Listings
pub mod ColumnPlaces
pub mod Kin
pub mod EntryLists
pub mod OwnRows
