-- Laws that the loops of the arrival order share.
pub mod Laws
