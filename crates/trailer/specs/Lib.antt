-- The definitions that the contracts cite, and worked examples.
pub mod Trailer
pub mod Cases
