-- The rows of a table, gathered from its records.
pub mod FieldTexts
pub mod GatheredRows
pub mod Header
pub mod JoinedFault
pub mod OwnRows
pub mod ProviderRows
pub mod RowOrder
pub mod RowRuns
pub mod RowSlices
pub mod RowsLeft
pub mod RowsRead
pub mod Whole
