-- Definitions for the code alone: what its loops and private functions do. No contract of a public function leads here.
pub mod NameBytes
pub mod Blocks
pub mod Rows
pub mod ReadParts
pub mod Items
pub mod Fronts
