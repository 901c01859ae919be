-- The table of usages, written and read back.
pub mod Written
pub mod Read
