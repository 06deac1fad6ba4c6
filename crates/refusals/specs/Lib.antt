-- The refusals.
pub mod Refusals
pub mod Codes
pub mod Laws
