-- Contracts as callers learn them: steps of ways of working, calls on files, and what a report says of its rows.
pub mod Steps
pub mod Possible
pub mod Lists
pub mod WorkedOlder
pub mod WorkedRemovals
pub mod Totality
pub mod Placing
pub mod Checkpoints
pub mod Reported
