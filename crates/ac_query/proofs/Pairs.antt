-- The pairs of a query, one after another, and what they ask for together.
pub mod Asking
pub mod Earlier
pub mod Once
pub mod PairSteps
pub mod ParameterNames
pub mod Passing
pub mod Gathering
pub mod Drafts
pub mod Fits
pub mod Ordered
