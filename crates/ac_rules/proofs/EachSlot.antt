-- The rules, tested slot by slot.
pub mod AggregateLemmas
pub mod AnchorLemmas
pub mod ApartLemmas
pub mod ClaimLaws
pub mod ClaimLemmas
pub mod FullLemmas
pub mod JudgeLemmas
pub mod TogetherLemmas
pub mod TraitLemmas
pub mod FrontLemmas
