-- The texts of what is found.
pub mod Begun
pub mod SlotsWritten
pub mod ItemsWritten
pub mod FirstFound
pub mod HostsWritten
pub mod RowsWritten
pub mod MarksWritten
