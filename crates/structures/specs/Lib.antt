-- Structures: creation, deletion and their values.
pub mod Structures
pub mod Laws
