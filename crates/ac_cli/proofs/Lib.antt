pub mod Drawn
pub mod FormsHold
pub mod InMemory
pub mod RanForms
pub mod RanTasks
pub mod RowsJson
pub mod BesideTold
