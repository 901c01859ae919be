-- Trees, by parents.
pub mod AncestorFacts
pub mod LawFacts
pub mod PlaceTrees
pub mod StepsUp
pub mod VisitFacts
