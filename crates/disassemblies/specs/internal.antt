-- Definitions for the code alone: what its loops and private functions do. No contract of a public function leads here.
pub mod Ordered
pub mod Labelled
pub mod Swept
pub mod Nearest
