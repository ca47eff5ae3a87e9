pub mod NameListLemmas
pub mod ForcedLemmas
