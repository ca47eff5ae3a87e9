-- Definitions for the code alone: what its loops and private functions do. No contract of a public function leads here.
pub mod Entries
pub mod FromCells
pub mod Headers
pub mod InOrder
pub mod MadeEdits
pub mod OneProof
pub mod Passes
pub mod Planned
pub mod SymbolNumbers
pub mod Rows
pub mod ReportParts
