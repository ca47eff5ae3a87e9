-- Lemmas of the law of partial links alone.
pub mod NeighbourMentions
pub mod NeighbourCells
pub mod NeighbourRows
pub mod SameLinks
pub mod PartialAmong
pub mod PartialLemmas
pub mod PartialMultiples
pub mod PartialNames
pub mod PartialTheorem
