-- The definitions that the contracts cite, and worked examples.
pub mod Saved
pub mod Calls
pub mod Cases
