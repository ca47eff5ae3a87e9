-- The definitions that the contracts of this crate are written in.
pub mod Choices
pub mod Flags
pub mod NameLists
pub mod ForcedNames
pub mod internal
