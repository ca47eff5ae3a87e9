pub mod Naming
pub mod Near
pub mod Lines
pub mod Listed
pub mod Starts
pub mod internal
