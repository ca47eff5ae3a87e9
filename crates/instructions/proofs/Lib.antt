pub mod FieldLemmas
pub mod OrderLemmas
pub mod LineLemmas
pub mod FoundLemmas
pub mod AlikeLemmas
pub mod CallLemmas
pub mod UnixLemmas
