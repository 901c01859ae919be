-- The parts of a cloud, by the places of providers.
pub mod CloudParts
pub mod CloudWorld
pub mod Entries
pub mod Forests
pub mod Hosts
pub mod Numbered
pub mod Places
pub mod RisingIds
pub mod Visits
pub mod Anchors
