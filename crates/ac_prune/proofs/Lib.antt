pub mod Search
pub mod Roots
pub mod Paths
