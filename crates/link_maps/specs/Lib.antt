-- The definitions that the contracts of this crate are written in.
pub mod References
pub mod Leads
pub mod Uses
pub mod Members
pub mod Taking
pub mod Rows
pub mod Groups
pub mod Records
pub mod Unused
pub mod MapLimits
pub mod Maps
pub mod Links
pub mod internal
