pub mod Filled
pub mod Bounds
pub mod Laws
pub mod Shown
pub mod Ends
pub mod Found
