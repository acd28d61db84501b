-- The definitions that the contracts cite.
pub mod Combine
pub mod Calls
pub mod Steps
