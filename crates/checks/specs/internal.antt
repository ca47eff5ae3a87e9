pub mod BadWords
pub mod Marks
