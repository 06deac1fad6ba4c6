-- The kernel's step, and which steps leave all bytes as they were.
pub mod Steps
pub mod Bytes
