-- The definitions that the contracts cite.
pub mod Sum
pub mod Side
pub mod Figure
pub mod Finish
pub mod Negated
pub mod Answer
pub mod Exact
pub mod Biased
pub mod Steps
pub mod Cases
