-- The call table, and its laws.
pub mod Calls
pub mod Laws
