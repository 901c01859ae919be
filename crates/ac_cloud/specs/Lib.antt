pub mod World
pub mod Amounts
pub mod Trees
pub mod Cloud
pub mod ListBounds
pub mod ListsOf
pub mod Laws
pub mod Providers
