-- Laws of truth values and of lists.
pub mod Booleans
pub mod All
pub mod Pairwise
pub mod Any
pub mod Places
pub mod Exceptions
pub mod Scanning
