-- The ready line.
pub mod Ready
pub mod Laws
