-- Records: request and reply, and the laws of their bytes.
pub mod Records
pub mod Laws
