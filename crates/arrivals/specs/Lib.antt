-- The arrival order: what it is, and its laws.
pub mod Order
pub mod Listed
pub mod Views
pub mod Zeros
