-- Which roots can host a candidate, and the parts of the forest under them.
pub mod CountLemmas
pub mod HostLemmas
pub mod RootLemmas
pub mod TreeLemmas
pub mod PartLemmas
pub mod FamilyLemmas
pub mod GroveLemmas
pub mod KeptLemmas
pub mod KindLemmas
pub mod MixedLemmas
