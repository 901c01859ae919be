-- What a walk shows.
pub mod Hosts
pub mod Walk
