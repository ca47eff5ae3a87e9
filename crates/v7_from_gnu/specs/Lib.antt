pub mod Jobs
pub mod Calls
pub mod Readings
pub mod Checks
pub mod Converting
pub mod Runs
pub mod internal
