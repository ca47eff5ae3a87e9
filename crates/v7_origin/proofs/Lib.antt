pub mod ReadingLemmas
pub mod LinkLemmas
pub mod AnswerLemmas
pub mod RunLemmas
