-- The laws behind the code's proofs, and those of finishing.
pub mod Whole
pub mod Limit
pub mod Sums
pub mod Distance
pub mod Nearest
pub mod Sides
pub mod Hundredths
pub mod Fraction
pub mod Halves
pub mod Outcomes
pub mod Negated
pub mod Exact
