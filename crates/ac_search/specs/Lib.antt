pub mod Shown
pub mod Search
pub mod Between
pub mod Hosts
pub mod At
