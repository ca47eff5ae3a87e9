pub mod Files
pub mod Calls
pub mod Runs
pub mod internal
