-- The definitions that the contracts cite, and worked examples.
pub mod Text
pub mod Answer
pub mod Steps
pub mod Cases
