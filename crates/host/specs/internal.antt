-- Definitions for the code alone: what its private functions do. No contract of a public function leads here.
pub mod Readings
