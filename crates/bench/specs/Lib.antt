-- Tried at the bench.
pub mod Rows
pub mod Proved
