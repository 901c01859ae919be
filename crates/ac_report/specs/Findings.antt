-- The texts of what is found.
pub mod Asks
pub mod AuditRows
pub mod Explanation
pub mod HostRows
pub mod HostSums
pub mod SlotDetails
pub mod WhyRows
