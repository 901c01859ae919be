-- What sources show.
pub mod Lists
pub mod Plain
pub mod Assignments
pub mod Classes
pub mod Odometer
pub mod Changes
