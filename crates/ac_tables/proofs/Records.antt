-- What the records of the five tables say, and their faults.
pub mod NameFacts
pub mod IdsFit
pub mod InventoryLists
pub mod KnownFacts
pub mod ProviderIds
pub mod ProviderRecords
pub mod ProviderFaults
pub mod Marks
pub mod TreeChecks
pub mod UsageChecks
pub mod UsageKeys
pub mod TreeFaults
