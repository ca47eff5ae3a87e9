pub mod BadWordLemmas
pub mod SymbolLemmas
pub mod WrongLemmas
pub mod SpreadLemmas
pub mod ReachLemmas
pub mod SureLemmas
