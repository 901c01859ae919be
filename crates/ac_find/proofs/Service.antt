-- What the differences of the service need, and why its own rules change nothing where no heading is named.
pub mod DoublesLemmas
pub mod MarkLemmas
pub mod RulesLemmas
pub mod SharesLemmas
