-- Where the running service may answer otherwise than the rules, and what its own rules give.
pub mod Differing
pub mod Doubles
pub mod Marks
pub mod Rules
