-- The steps of the process calls, and the laws that follow from the definitions alone.
pub mod Processes
pub mod Laws
