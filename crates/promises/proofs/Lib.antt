-- The theorems that rest on what a request does at one semaphore or ring.
pub mod SemaphoreDeedsKept
pub mod SemaphoreDeedsOf
pub mod Semaphores
pub mod RingStructures
pub mod RingTransfers
pub mod RingDeedsOf
pub mod Rings
pub mod RingBytes
