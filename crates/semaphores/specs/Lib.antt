-- Semaphores.
pub mod Semaphores
pub mod Laws
