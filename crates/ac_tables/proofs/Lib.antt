pub mod Common
pub mod Places
pub mod Records
pub mod Sorted
pub mod Gathered
pub mod FirstFailing
mod Literals
pub mod UsageRows
pub mod StatedWorld
pub mod ProvidersStated
pub mod BesideFaults
pub mod WrittenRows
pub mod FoundRows
