-- The definitions that the contracts cite, and worked examples.
pub mod Numerals
pub mod Steps
pub mod Cases
