pub mod Round
pub mod Bay
pub mod Laws
