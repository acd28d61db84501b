-- The definitions that the contracts cite.
pub mod Calls
pub mod Width
