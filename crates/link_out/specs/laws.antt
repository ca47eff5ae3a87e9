-- What the laws of linking state. (ld(1))
pub mod Stripping
pub mod PartialLinks
