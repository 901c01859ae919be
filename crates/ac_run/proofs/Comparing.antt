-- How an answer of the service is read, and what is told of it.
pub mod Floats
pub mod Known
pub mod Reading
pub mod Telling
