-- Laws of a record brought in.
pub mod Absorbing
