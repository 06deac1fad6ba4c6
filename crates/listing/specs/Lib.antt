-- Listing: the text that the program panel prints, and the laws of its length.
pub mod Listing
pub mod Laws
pub mod Buffer
