-- The table of usages.
pub mod Accepted
pub mod Amounts
pub mod Checks
pub mod GoOn
