-- The steps of a walk.
pub mod BackLemmas
pub mod BetweenLemmas
pub mod EndLemmas
pub mod MoveLemmas
pub mod PassLemmas
pub mod PathLemmas
pub mod StepLemmas
pub mod ChangeLemmas
pub mod EntryLemmas
pub mod LeaveLemmas
pub mod SpentLemmas
