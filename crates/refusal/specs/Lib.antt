-- The definitions that the contracts cite.
pub mod Number
pub mod Outcome
pub mod Answer
