-- What the path of a walk takes, and what it leaves.
pub mod AheadLemmas
pub mod BearLemmas
pub mod RowLemmas
pub mod FrontLemmas
pub mod LeftLemmas
pub mod LedgerLemmas
pub mod MarkLemmas
