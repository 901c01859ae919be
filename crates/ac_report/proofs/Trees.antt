-- The trees of JSON that a page is made of.
pub mod Finding
pub mod FindingSums
pub mod Gathering
pub mod Requests
pub mod Sending
pub mod Listed
pub mod PlainTrees
pub mod Marking
