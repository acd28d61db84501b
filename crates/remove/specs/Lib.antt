-- The definitions that the contracts cite.
pub mod Remaining
pub mod Calls
pub mod Steps
pub mod Cases
