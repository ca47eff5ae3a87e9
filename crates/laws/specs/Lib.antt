-- The definitions that the laws of this crate are written in.
pub mod relation
pub mod WordsAndNames
pub mod PartialLinksAmongOthers
pub mod Core
pub mod CoreLaws
pub mod Operands
pub mod Instructions
pub mod OperandWords
pub mod OperandPlaces
pub mod ReachedInstructions
pub mod CleanPrograms
pub mod Disks
pub mod SessionsByCommands
pub mod Calls
pub mod Builds
pub mod Origins
