pub mod EncodingLemmas
pub mod DecodingLemmas
pub mod AlikeLemmas
pub mod EncodesLemmas
pub mod NameLemmas
mod NameOrderLemmas
pub mod WordFaultLemmas
pub mod PutsLemmas
pub mod SymbolLemmas
pub mod SegmentLemmas
pub mod FilePutLemmas
pub mod BodyLemmas
pub mod ReadLemmas
pub mod BlockLemmas
pub mod OutgoingLemmas
pub mod IncomingLemmas
pub mod WordLemmas
pub mod ItemLemmas
