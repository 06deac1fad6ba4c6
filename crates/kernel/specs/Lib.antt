-- What a call does to the lent buffers, and what of it the code writes.
pub mod Called
pub mod Laws
pub mod Stored
