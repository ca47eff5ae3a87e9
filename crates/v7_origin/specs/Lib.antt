pub mod Whole
pub mod Runs
pub mod internal
