-- The definitions that the contracts cite, and worked examples.
pub mod Single
pub mod Steps
pub mod Cases
