-- The definitions that the contracts of this crate are written in.
pub mod ReservedNames
pub mod KeptSymbols
pub mod Results
pub mod Layouts
pub mod Outcomes
pub mod Runs
pub mod Steps
pub mod Inputs
pub mod FaultTexts
pub mod function
pub mod laws
pub mod internal
