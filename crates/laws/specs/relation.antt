-- What linking is: the relation of objects, a file and a report, and its parts. (ld(1), a.out(5))
pub mod NameStates
pub mod Relocated
pub mod LinkedTable
pub mod LinkedWords
pub mod Reported
pub mod LinkedFrom
pub mod Refusals
