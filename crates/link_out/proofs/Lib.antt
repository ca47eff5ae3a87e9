-- The lemmas of this crate.
pub mod CellWordLemmas
pub mod StripLemmas
pub mod ObjectLemmas
pub mod CellRelocLemmas
pub mod FitLemmas
pub mod OutcomeLemmas
pub mod ReportLemmas
pub mod InOrderLemmas
pub mod RowLemmas
pub mod SymbolNumberLemmas
pub mod ReportNameLemmas
pub mod FinishLemmas
pub mod partial_links
pub mod RunLemmas
