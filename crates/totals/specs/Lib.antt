-- The definitions that the contracts cite, and worked examples.
pub mod Totals
pub mod Cases
