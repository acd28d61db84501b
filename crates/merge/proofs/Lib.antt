-- Laws of merging from the end.
pub mod Merged
pub mod State
pub mod Walk
pub mod Counting
pub mod Writing
pub mod Outcome
