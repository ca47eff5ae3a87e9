pub mod LineLemmas
pub mod OctalLemmas
