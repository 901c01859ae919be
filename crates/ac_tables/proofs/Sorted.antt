-- Rows in order, and the sets and maps of a provider.
pub mod Least
pub mod OrderFacts
pub mod RiseFacts
pub mod SortedTies
pub mod ProviderMaps
pub mod ProviderSets
pub mod RowLists
