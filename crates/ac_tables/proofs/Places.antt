-- The parents and the entries of providers, by their places.
pub mod BuildFacts
pub mod JoinFacts
pub mod KinFacts
