pub mod LinkWords
pub mod Tools
pub mod Calls
pub mod internal
pub mod Scripts
pub mod ScriptAnswers
pub mod Blocks
