-- Definitions for the code alone: what its loops and private functions do. No contract of a public function leads here.
pub mod Updates
pub mod Additions
pub mod NewNames
pub mod Links
pub mod Chains
pub mod Settled
pub mod Counts
pub mod Threads
pub mod Restores
pub mod Fields
pub mod OwnWords
pub mod Bindings
