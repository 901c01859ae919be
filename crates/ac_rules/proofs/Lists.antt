-- All lists of numbers in order, and the candidates among them.
pub mod ListLemmas
pub mod OdometerLemmas
pub mod OrderLemmas
pub mod RestLemmas
pub mod PageLemmas
