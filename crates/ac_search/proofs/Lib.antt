pub mod Search
pub mod Steps
mod Literals
