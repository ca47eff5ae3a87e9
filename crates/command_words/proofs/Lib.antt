pub mod WordsLemmas
pub mod ToolLemmas
mod WordExamples
pub mod AskedLemmas
pub mod ScriptLemmas
