-- What the panel holds, in document 01's words.
pub mod Numbers
pub mod Access
pub mod Lines
pub mod Laws
