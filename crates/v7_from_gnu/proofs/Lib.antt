pub mod AnswerLemmas
pub mod ReadingLemmas
pub mod LookLemmas
pub mod ConvertingLemmas
pub mod StoringLemmas
pub mod SlashLemmas
