-- The state's bytes: the layout, and the laws of reading and writing it.
pub mod Pieces
pub mod Typed
pub mod PieceLaws
pub mod Layout
pub mod Laws
pub mod Kept
