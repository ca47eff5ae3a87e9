pub mod Numbers
pub mod Names
pub mod Columns
pub mod Lines
pub mod Texts
