pub mod Queries
pub mod Quoted
pub mod Tables
