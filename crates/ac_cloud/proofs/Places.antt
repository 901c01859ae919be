-- The parts of a cloud, by the places of providers.
pub mod AmountFacts
pub mod AnchorFacts
pub mod AnchorLists
pub mod AvailableFacts
pub mod CloudFacts
pub mod CloudSets
pub mod DistinctFacts
pub mod GroupFacts
pub mod HostFacts
pub mod KeptFacts
pub mod WideAggregates
pub mod WorldFacts
