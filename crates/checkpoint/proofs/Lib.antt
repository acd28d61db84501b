-- Laws of a saved table and of the two calls.
pub mod Records
pub mod Saving
pub mod Loading
pub mod Reloading
