-- Pages: what is written of them, piece by piece, and what is read.
pub mod Joining
pub mod Listing
pub mod Paging
pub mod Showing
pub mod Writing
