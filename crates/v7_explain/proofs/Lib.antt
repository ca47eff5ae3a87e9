pub mod FoundLemmas
pub mod EachLemmas
pub mod MapLemmas
pub mod AskedLemmas
