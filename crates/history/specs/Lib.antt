-- The definitions that demand 3 is stated in.
pub mod Rows
pub mod Canonical
pub mod Calls
pub mod Beneath
pub mod Run
pub mod Demand3
pub mod Reloaded
pub mod Older
pub mod AsDoubles
pub mod Terms
pub mod Cases
