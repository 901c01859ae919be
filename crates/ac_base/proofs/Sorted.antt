-- Lists in order: sets, maps, and binary search.
pub mod SameItems
pub mod SearchFacts
pub mod SortedSets
