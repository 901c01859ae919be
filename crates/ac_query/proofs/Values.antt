-- The values of texts: their items, and what is gathered of them.
pub mod Items
pub mod Marks
pub mod NeedItems
pub mod NeedSteps
pub mod Pieces
pub mod PositiveNeeds
pub mod Inserts
pub mod NameSets
pub mod Choosing
