pub mod GnuForm
pub mod Staying
pub mod GnuRefusals
pub mod Converted
pub mod Clashes
pub mod Places
pub mod Laws
pub mod internal
